-- Two lists that are the same but for a part.
-- Assumes nothing.
use mathlib.Core.Path.{◌≡◌, refl, ◌∙◌, sym, ap}
use mathlib.Core.List.{List}
use Prim.Native.Nat.{ℕ, ◌≤◌, ◌<◌, ◌+◌, ◌-◌}
use native.Mathlib.Omega.{arith}
use lib.ListN.{get_or, length, drop, length-drop}
use lib.Seq.{ext_get_or, get_or-drop}

-- the bytes below a and from b on are the same
pub record Outside (w w' : List ℕ) (a b : ℕ) : Type 0 where
  pub under : (j : ℕ) → j < a → get_or w' j 0 ≡ get_or w j 0
  pub past : (j : ℕ) → b ≤ j → get_or w' j 0 ≡ get_or w j 0

pub outside-none : (w : List ℕ) (a b : ℕ) → Outside w w a b
outside-none w a b = record { under = λ j h. refl; past = λ j h. refl }

pub outside-join : {w w' w'' : List ℕ} {a b c d e f : ℕ} → e ≤ a → e ≤ c → b ≤ f → d ≤ f → Outside w w' a b → Outside w' w'' c d
    → Outside w w'' e f
outside-join {w} {w'} {w''} {a} {b} {c} {d} {e} {f} ha hc hb hd o o' =
    record {
      under = λ j h. o'.under j (omega arith) ∙ o.under j (omega arith);
      past = λ j h. o'.past j (omega arith) ∙ o.past j (omega arith);
    }

-- the same bytes from k on
pub past_same : (w w' : List ℕ) (a b k : ℕ) → length w' ≡ length w → b ≤ k → Outside w w' a b → drop k w' ≡ drop k w
past_same w w' a b k e h o =
    ext_get_or 0 (drop k w') (drop k w) (length-drop k w' ∙ ap (λ n. n - k) e ∙ sym (length-drop k w))
    (λ i l. get_or-drop k w' i 0 ∙ o.past (k + i) (omega arith) ∙ sym (get_or-drop k w i 0))
