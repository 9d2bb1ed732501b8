-- `round_trip::kth_token_in_packets` meets its contract: it is the round trip of each size, of what the builder and the run answered. Assumes nothing.
use mathlib.Core.Path.{refl}
use native.Mathlib.Omega.{arith}
use Rattle.std.proofs.lemmas.Result.{err_from_is_err_and}
use Rattle.round_trip.proofs.Running.{bytes-known, refused-is, refused-back, answered-is, answered-back}
use Rattle.round_trip.specs.RoundTrip.{sized}
use Rattle.round_trip.proofs.kth_token_in_packets.Goals as goal

pub returns-in_err-len : goal.returns-in_err-len
returns-in_err-len c = let a = c.args in
    let p = err_from_is_err_and c.from_residual.result c.from_residual.ensures.1 in
    record {
      value = rw (p.1, p.2) (refused-is (sized a.size) a.script.now a.buf.now a.k c.in_err-len.ensures.value refl);
      buf_after = c.build_query_results_in_packets.ensures.buf_after;
      read_back = rw (p.1, p.2) (refused-back (sized a.size) a.script.now a.buf.now a.k c.in_err-len.ensures.value refl);
    }

pub returns : goal.returns
returns c = let a = c.args in
    let known = bytes-known a.script.now (λ i. omega (arith, c.shared_slice_known-1.given i)) in
    record {
      value = answered-is (sized a.size) a.script.now a.buf.now a.k c.in_ok-len.ensures.value refl c.build_query_results_in_packets.ensures.buf_after c.answer_in.ensures;
      buf_after = c.build_query_results_in_packets.ensures.buf_after;
      read_back = answered-back (sized a.size) a.script.now a.buf.now a.k c.in_ok-len.ensures.value refl c.build_query_results_in_packets.ensures.buf_after c.answer_in.ensures known;
    }
