-- 'Demands 2 and 3 then mean the table under the new care' (document 02, 2.4): the table in the lent bytes after a log is alike the logged one.
-- Assumes nothing.
use mathlib.Core.Path.{refl, sym, ap, subst}
use Rattle.diagram.specs.Filling.Fill.{Row}
use Rattle.table.specs.declared.State.{State}
use Rattle.rowlog.specs.Log.{log_care, logged_table}
use Rattle.rowlog.proofs.LogThen.{kept}
use Rattle.rowlog.proofs.Logs.{state-logged, row-logged}
use Rattle.yavdocsil.specs.Demanded.{Demanded, UnderNewCare}
use Rattle.yavdocsil.proofs.Demanded.{demanded}

-- what lies past the rows of the outputs is not looked at
pub under-new-care : UnderNewCare
under-new-care s rows least counts care values t =
    subst (λ (after : State). Demanded (logged_table s values rows least counts) after values (log_care s rows least counts care))
    (sym (state-logged s rows least counts care t))
    (demanded (logged_table s values rows least counts) (kept s) values (log_care s rows least counts care)
    (record {
      inputs = refl;
      outputs = refl;
      cared = λ j row h k. ap (λ (r : Row). r.care) (row-logged s rows least counts care t values j row h k);
      valued = λ j row h k _. refl;
    }))
