-- `matching::link_candidate` meets its contract: it refuses, or has what it needs. Assumes nothing.
use lib.ListN.{length}
use Rattle.matching.proofs.Buffers.Fitting.{candidate-says, passed}
use Rattle.matching.proofs.link_candidate.Goals as goal

pub link_part-requires : goal.link_part-requires
link_part-requires c =
    let a = c.args in
    let n = (candidate-says a.d (length a.f.now) a.to a.k a.l (length a.work.now)).told
    (passed c.candidate_fits.ensures c.if-not-candidate_fits.false-raw) in record {
      variables = n.0.0;
      f_len = n.0.1;
      region = n.1.0.0;
      entry_room = n.1.0.1;
      link_room = n.1.1;
    }
