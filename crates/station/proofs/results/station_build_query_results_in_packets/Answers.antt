-- `station::results::station_build_query_results_in_packets` meets its contract. Assumes nothing.
use native.Mathlib.Omega.{arith}
use lib.ListN.{length}
use Rattle.station.proofs.Ends.{handed}
use Rattle.station.proofs.Lengths.{fits-in-packets}
use Rattle.station.specs.Answer.{built_outcome}
use Rattle.station.specs.Results.{in_packets_call}
use Rattle.station.proofs.results.station_build_query_results_in_packets.Goals as goal

pub tell-requires : goal.tell-requires
tell-requires c = let a = c.args in fits-in-packets a.size a.script.now (length a.buf.now) (omega arith) c.build_query_results_in_packets.ensures.value

pub returns : goal.returns
unfolding in_packets_call
returns c = record { value = handed built_outcome c.tell.type_inv c.build_query_results_in_packets.ensures.value c.tell.ensures; buf_after = c.build_query_results_in_packets.ensures.buf_after }
