-- What is read of a call lies in the request, each field after the last one, and so does every part that is answered. Assumes nothing.
use mathlib.Core.Path.{◌≡◌, refl}
use mathlib.Core.Bool.{Bool, true, false, cond}
use mathlib.Core.List.{List, [], ◌∷◌}
use Prim.Native.Nat.{ℕ, zero, suc, ◌+◌, ◌≤◌, ◌<◌}
use native.Mathlib.Omega.{arith}
use lib.Dec.{eqb, leb}
use Rattle.std.specs.Prelude.{None, Result, Ok, Err}
use lib.ListN.{length, drop}
use Rattle.wire.specs.Le.{le_at}
use Rattle.wire.specs.declared.Part.{Part}
use Rattle.request.specs.Headers.{all_headers}
use Rattle.request.specs.declared.HeadersFault.{HeadersFault}
use Rattle.request.specs.declared.HeadersFault.TheVariants.{Short, TooSmall, PastEnd}
use Rattle.payload.specs.Places.{body_source, Source, Place, Read, whole, refused}
use Rattle.payload.proofs.Each.{Each, got, none, each_of, cond-each, must-each, number-each, part-each, then-each}
use Rattle.cells.specs.declared.Value.{Value}
use Rattle.cells.specs.declared.Value.TheVariants as value
use Rattle.cells.specs.Inside.{PartIn, ValueIn}
use Rattle.cells.proofs.Inside as cells
use Rattle.rpc.specs.declared.Procedure.{Procedure}
use Rattle.rpc.specs.declared.Head.{Head}
use Rattle.rpc.specs.declared.Metadata.{Metadata}
use Rattle.rpc.specs.declared.Parameter.{Parameter}
use Rattle.rpc.specs.declared.ParameterAt.{ParameterAt}
use Rattle.rpc.specs.Rpc.{renamed, in_head, in_metadata, in_value, procedure_at, head_at, name_at, status_at, metadata_at, value_at, parameter_at, parameters_at, runs_statement, Sent, call_at, call_after, asked_in, bytes_to, first_in, told, rpc_of}
use Rattle.rpc.specs.Inside.{ProcedureIn, ParameterIn, AskedIn, StatementIn, AnswerIn, PartsInside}

renamed-each : {A : Type 0} (Q : A → Place → Type 0) (name : ℕ → ℕ) (x : Read A) → Each Q x → Each Q (renamed name x)
unfolding renamed
renamed-each Q name (whole a to) h = h
renamed-each Q name (refused n) h = none

module _ (b : Source) where
  abbrev Onward : Place → Place → Type 0
  Onward at to = (at < to) × (to ≤ length b.bytes)

  -- ---- the head

  abbrev ProcedureTo : Procedure → Place → Type 0
  ProcedureTo p to = ProcedureIn (length b.bytes) p

  procedure-in : (at : Place) → Each ProcedureTo (procedure_at b at)
  unfolding procedure_at
  procedure-in at =
      number-each _ 2 b at _ (λ h1.
      cond-each _ (eqb (le_at 2 (drop at b.bytes)) 0xFFFF) _ _
      (λ e. number-each _ 2 b (at + 2) _ (λ h2. got tt))
      (λ e. part-each _ _ b (at + 2) _ (λ h2. got h2)))

  abbrev HeadTo : Head → Place → Type 0
  HeadTo h to = ProcedureIn (length b.bytes) h.procedure

  head_in : (at : Place) → Each HeadTo (head_at b at)
  unfolding head_at
  head_in at =
      then-each ProcedureTo _ _ _ (procedure-in at) (λ p to h.
      number-each _ 2 b to _ (λ h2. got h))

  -- ---- a parameter

  abbrev NameTo : Place → Part → Place → Type 0
  NameTo at q to = Onward at to × PartIn (length b.bytes) q

  name_in : (at : Place) → Each (NameTo at) (name_at b at)
  unfolding name_at
  name_in at =
      number-each _ 1 b at _ (λ h1.
      must-each _ _ _ _ (λ e.
      part-each _ _ b (at + 1) _ (λ h2. got ((omega arith, h2), h2))))

  abbrev StatusTo : Place → ℕ → Place → Type 0
  StatusTo at n to = Onward at to

  status-in : (at : Place) → Each (StatusTo at) (status_at b at)
  unfolding status_at
  status-in at =
      number-each _ 1 b at _ (λ h1.
      must-each _ _ _ _ (λ e. got (omega arith, h1)))

  abbrev MetadataTo : Place → Metadata → Place → Type 0
  MetadataTo at m to = Onward at to × PartIn (length b.bytes) m.name × PartIn (length b.bytes) m.info.collation

  metadata-in : (at : Place) → Each (MetadataTo at) (metadata_at b at)
  unfolding metadata_at
  metadata-in at =
      then-each (NameTo at) _ _ _ (name_in at) (λ name a1 h1.
      then-each (StatusTo a1) _ _ _ (status-in a1) (λ status a2 h2.
      then-each (cells.TypeTo b a2) _ _ _ (cells.type-in b a2) (λ info a3 h3.
      got ((omega arith, h3.0.1), h1.1, h3.1))))

  abbrev ParameterTo : Place → Parameter → Place → Type 0
  ParameterTo at p to = Onward at to × ParameterIn (length b.bytes) p

  pub parameter-in : (at : Place) → Each (ParameterTo at) (parameter_at b at)
  unfolding parameter_at value_at
  parameter-in at =
      then-each (MetadataTo at) _ _ _ (renamed-each _ in_metadata _ (metadata-in at)) (λ m a1 h1.
      then-each (cells.ValueTo b a1) _ _ _ (renamed-each _ in_value _ (cells.cell_in_lem b m.info.code m.info.limit a1)) (λ v a2 h2.
      got ((omega arith, h2.0.1), (h1.1, h1.2, h2.1))))

  -- a parameter that is read moves on
  pub parameter-onward : (at : Place) {p : Parameter} {to : ℕ} → parameter_at b at ≡ whole p to → at < to
  parameter-onward at e = (each_of (ParameterTo at) (parameter-in at) e).0.0

  -- ---- parameters

  abbrev Entry : ParameterAt → Type 0
  Entry p = (p.next ≤ length b.bytes) × ParameterIn (length b.bytes) p.parameter

  abbrev Entries : List ParameterAt → Type 0
  Entries [] = Unit {0}
  Entries (p ∷ ps) = Entry p × Entries ps

  abbrev EntriesTo : List ParameterAt → Place → Type 0
  EntriesTo ps to = Entries ps

  parameters-in : (turns : ℕ) (at : Place) → Each EntriesTo (parameters_at turns b at)
  unfolding parameters_at
  parameters-in zero at = none
  parameters-in (suc turns) at =
      cond-each _ (leb (length b.bytes) at) _ _
      (λ e. got tt)
      (λ e.
      then-each (ParameterTo at) _ _ _ (parameter-in at) (λ p a1 h1.
      then-each EntriesTo _ _ _ (parameters-in turns a1) (λ ps a2 h2.
      got ((h1.0.1, h1.1), h2))))

  -- ---- a call and what is answered of it

  abbrev SentTo : Sent → Place → Type 0
  SentTo s to = ProcedureIn (length b.bytes) s.head.procedure × Entries s.parameters

  call-in : (at : Place) → Each SentTo (call_at b at)
  unfolding call_at
  call-in at =
      then-each HeadTo _ _ _ (renamed-each _ in_head _ (head_in at)) (λ h a1 h1.
      then-each EntriesTo _ _ _ (parameters-in _ a1) (λ ps a2 h2.
      must-each _ _ _ _ (λ e. got (h1, h2))))

  after-in : (h : Result ℕ HeadersFault) → Each SentTo (call_after b h)
  after-in (Err Short) = none
  after-in (Err TooSmall) = none
  after-in (Err PastEnd) = none
  after-in (Ok n) = call-in n

  asked_in_lem : (number : ℕ) (ps : List ParameterAt) → Entries ps → AskedIn (length b.bytes) (asked_in number ps)
  unfolding asked_in
  asked_in_lem number [] h = tt
  asked_in_lem zero (p ∷ ps) h = h.0.1
  asked_in_lem (suc number) (p ∷ ps) h = asked_in_lem number ps h.1

  bytes-in : (limit : ℕ) (v : Value) (end : Place) → end ≤ length b.bytes → ValueIn (length b.bytes) v → PartIn (length b.bytes) (bytes_to limit v end)
  bytes-in limit (value.Number n) end h i = omega arith
  bytes-in limit (value.Part q) end h i = i
  bytes-in limit (value.Max q) end h i = i
  bytes-in limit value.Null end h i = omega arith

  first-in : (ps : List ParameterAt) → Entries ps → StatementIn (length b.bytes) (first_in ps)
  first-in [] h = tt
  first-in (p ∷ ps) ((h, (name, collation, v)), hs) = bytes-in p.parameter.info.limit p.parameter.value p.next h v

  run_in : (runs : Bool) (ps : List ParameterAt) → Entries ps → StatementIn (length b.bytes) (cond runs (first_in ps) None)
  run_in true ps h = first-in ps h
  run_in false ps h = tt

  told_in_lem : (number : ℕ) (x : Read Sent) → Each SentTo x → AnswerIn (length b.bytes) (told number x)
  told_in_lem number (whole s to) h =
      let i = each_of SentTo h refl in
      (i.0, asked_in_lem number s.parameters i.1, run_in (runs_statement s.head.procedure) s.parameters i.1)
  told_in_lem number (refused n) h = tt

pub parts-inside : PartsInside
unfolding rpc_of
parts-inside b number = told_in_lem (body_source b) number (call_after (body_source b) (all_headers b)) (after-in (body_source b) (all_headers b))
