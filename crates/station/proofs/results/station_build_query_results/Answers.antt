-- `station::results::station_build_query_results` meets its contract. Assumes nothing.
use native.Mathlib.Omega.{arith}
use lib.ListN.{length}
use Rattle.station.proofs.Ends.{handed}
use Rattle.station.proofs.Lengths.{fits}
use Rattle.station.specs.Answer.{built_outcome}
use Rattle.station.specs.Results.{built_call}
use Rattle.station.proofs.results.station_build_query_results.Goals as goal

pub tell-requires : goal.tell-requires
tell-requires c = let a = c.args in fits a.script.now (length a.buf.now) (omega arith) c.build_query_results.ensures.value

pub returns : goal.returns
unfolding built_call
returns c = record { value = handed built_outcome c.tell.type_inv c.build_query_results.ensures.value c.tell.ensures; buf_after = c.build_query_results.ensures.buf_after }
