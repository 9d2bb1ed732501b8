-- `station::build::station_build_leading_error_tokens` meets its contract. Assumes nothing.
use Rattle.station.proofs.Builds.{fits, built}
use Rattle.station.proofs.build.station_build_leading_error_tokens.Goals as goal

pub tell-requires : goal.tell-requires
tell-requires c = fits _ _ c.build_leading_error_tokens.ensures.value

pub returns : goal.returns
returns c = let w = built _ _ c.tell.type_inv (c.build_leading_error_tokens.ensures.value, c.build_leading_error_tokens.ensures.buf_after) c.tell.ensures in record { value = w.0; buf_after = w.1 }
