-- Which parameter is asked for changes nothing else. Assumes nothing.
use mathlib.Core.Path.{◌≡◌, refl}
use Prim.Native.Nat.{ℕ}
use Rattle.request.specs.Headers.{all_headers}
use Rattle.payload.specs.Places.{body_source, Read, whole, refused}
use Rattle.rpc.specs.Rpc.{Sent, call_after, told, rpc_of}
use Rattle.rpc.specs.Alone.{without_asked, AskedAlone}

same : (x : Read Sent) (i j : ℕ) → without_asked (told i x) ≡ without_asked (told j x)
same (whole call at) i j = refl
same (refused n) i j = refl

pub asked-alone : AskedAlone
unfolding rpc_of
asked-alone body i j = same (call_after (body_source body) (all_headers body)) i j
