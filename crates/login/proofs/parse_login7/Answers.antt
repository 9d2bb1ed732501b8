-- `login::parse_login7` meets its contract. Assumes nothing.
use borrow.Author.Tests.{lt-ltb, le-ltb}
use mathlib.Core.Path.{◌≡◌, sym, ap, ◌∙◌}
use Rattle.login.specs.Login.{parse_login7, login_of, ids_after}
use Rattle.login.specs.Features.{features}
use Rattle.login.specs.Inner.{features_from}
use Rattle.login.proofs.Walk.{from_start}
use Rattle.login.proofs.parse_login7.Goals as goal

pub returns-then-ids-read : goal.returns-then-ids-read
unfolding parse_login7 ids_after
returns-then-ids-read c = let s = c.args.body.now in
    let all : features s ≡ features_from s c.features_at-first.result = from_start s ∙ ap (features_from s) (sym c.features_at-first.ensures) in
    record { value = rw (all, ← c.read_features-read.ensures.ids_value, lt-ltb _ _ c.if-ids-read.true); ids_after = rw (all, ← c.read_features-read.ensures.ids_value, lt-ltb _ _ c.if-ids-read.true) }

pub returns : goal.returns
unfolding parse_login7 login_of ids_after
returns c = let s = c.args.body.now in
    let all : features s ≡ features_from s c.features_at-first.result = from_start s ∙ ap (features_from s) (sym c.features_at-first.ensures) in
    record { value = rw (all, ← c.read_features-read.ensures.ids_value, ← c.read_features-read.ensures.login_value, le-ltb _ _ c.if-ids-read.false); ids_after = rw (all, ← c.read_features-read.ensures.ids_value, le-ltb _ _ c.if-ids-read.false) c.write_ids.ensures }
