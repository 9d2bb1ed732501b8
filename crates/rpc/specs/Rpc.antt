-- A stored procedure call (MS-TDS 2.2.6.6, RPC Request: ALL_HEADERS, NameLenProcID, OptionFlags, then for each parameter its
-- ParamMetaData and its value), and who causes which refusal (document 02, 2026-01 and 2026-05). Fields are read in their order, so that the
-- earliest byte at fault decides. Rests on request's headers, payload's places, and cells' types and values.
-- docs/FORMATS.md, 'Requests that are read', has it in words.
use Rattle.std.specs.Prelude.{ℕ, zero, suc, ◌-◌, ◌*◌, Bool, true, false, cond, not, ◌&&◌, ◌||◌, List, [], ◌∷◌, eqb, leb, length, Option, Some, None, Result, Ok, Err}
use Rattle.refusals.specs.Numbers.{cut_short, inner_wrong, call_cut, parameter_cut, parameter_not_read, headers_too_small}
use Rattle.wire.specs.declared.Part.{Part}
use Rattle.packet.specs.Status.{has_bit}
use Rattle.request.specs.Headers.{all_headers}
use Rattle.request.specs.declared.HeadersFault.{HeadersFault}
use Rattle.request.specs.declared.HeadersFault.TheVariants.{Short, TooSmall, PastEnd}
use Rattle.payload.specs.Places.{Source, body_source, Place, Read, whole, refused, number_at, part_at, must, then, part_to}
use Rattle.cells.specs.declared.Value.{Value}
use Rattle.cells.specs.declared.Value.TheVariants as value
use Rattle.cells.specs.Cells.{type_at, cell_at}
use Rattle.rpc.specs.declared.Procedure.{Procedure}
use Rattle.rpc.specs.declared.Procedure.TheVariants.{Name, Number}
use Rattle.rpc.specs.declared.Head.{Head}
use Rattle.rpc.specs.declared.Metadata.{Metadata}
use Rattle.rpc.specs.declared.Parameter.{Parameter}
use Rattle.rpc.specs.declared.ParameterAt.{ParameterAt}
use Rattle.rpc.specs.declared.Call.{Call}

-- what is read, with the refusal's number by another name
unfoldable pub renamed : {A : Type 0} → (ℕ → ℕ) → Read A → Read A
renamed name (whole a at) = whole a at
renamed name (refused n) = refused (name n)

-- 24, a cut, and 26, a field that is wrong, as a call names them: in its head 29
abbrev pub in_head : ℕ → ℕ
in_head n = call_cut

-- in a parameter's metadata 30 and 31
abbrev pub in_metadata : ℕ → ℕ
in_metadata n = cond (eqb n cut_short) parameter_cut parameter_not_read

-- in its value 30
abbrev pub in_value : ℕ → ℕ
in_value n = parameter_cut

-- ---- the head

-- NameLenProcID: the length FFFF and a number, or a name's length in units and the name
unfoldable pub procedure_at : Source → Place → Read Procedure
procedure_at src at =
    number_at 2 src at λ n a1.
    cond (eqb n 0xFFFF)
    (number_at 2 src a1 λ number a2. whole (Number number) a2)
    (part_at (2 * n) src a1 λ name a2. whole (Name name) a2)

-- NameLenProcID and OptionFlags
unfoldable pub head_at : Source → Place → Read Head
head_at src at =
    then (procedure_at src at) λ procedure a1.
    number_at 2 src a1 λ flags a2.
    whole (record { procedure = procedure; flags = flags }) a2

-- ---- a parameter

-- its name: the length in units and the name. FE and FF are no lengths: after these marks (NoExecFlag, BatchFlag) a second call follows
unfoldable pub name_at : Source → Place → Read Part
name_at src at =
    number_at 1 src at λ n a1.
    must (not (eqb n 0xFE || eqb n 0xFF)) inner_wrong
    (part_at (2 * n) src a1 whole)

-- StatusFlags: with bit 08 (fEncrypted) it is not read
unfoldable pub status_at : Source → Place → Read ℕ
status_at src at =
    number_at 1 src at λ status a1.
    must (not (has_bit 0x08 status)) inner_wrong
    (whole status a1)

-- ParamMetaData: name, StatusFlags, TYPE_INFO
unfoldable pub metadata_at : Source → Place → Read Metadata
metadata_at src at =
    then (name_at src at) λ name a1.
    then (status_at src a1) λ status a2.
    then (type_at src a2) λ info a3.
    whole (record { name = name; status = status; info = info }) a3

-- a value after its metadata: it is read as a cell of a column of its type
unfoldable pub value_at : Source → Place → Metadata → Read Parameter
value_at src at meta =
    then (renamed in_value (cell_at meta.info.code meta.info.limit src at)) λ value a1.
    whole (record { name = meta.name; status = meta.status; info = meta.info; value = value }) a1

-- ParamMetaData and the value
unfoldable pub parameter_at : Source → Place → Read Parameter
parameter_at src at =
    then (renamed in_metadata (metadata_at src at)) λ meta a1.
    value_at src a1 meta

-- the parameters from a place up to the body's end, each with the place after it. A parameter is a byte or more, so that one turn more
-- than the body has bytes is enough
unfoldable pub parameters_at : ℕ → Source → Place → Read (List ParameterAt)
parameters_at zero src at = refused parameter_cut
parameters_at (suc turns) src at =
    cond (leb (length src.bytes) at) (whole [] at)
    (then (parameter_at src at) λ p a1.
    then (parameters_at turns src a1) λ ps a2.
    whole (record { parameter = p; next = a1 } ∷ ps) a2)

-- ---- a call

-- the procedure that runs a statement, which is its first parameter: sp_executesql by its number
abbrev pub runs_statement : Procedure → Bool
runs_statement (Name name) = false
runs_statement (Number n) = eqb n 10

-- no parameter at all
abbrev pub is_empty : List ParameterAt → Bool
is_empty [] = true
is_empty (p ∷ ps) = false

-- a call as it stands in a request, whichever parameter is asked for
pub record Sent : Type 0 where
  pub head : Head
  pub parameters : List ParameterAt

-- the call from a place on; one that runs a statement has it
unfoldable pub call_at : Source → Place → Read Sent
call_at src at =
    then (renamed in_head (head_at src at)) λ head a1.
    then (parameters_at (suc (length src.bytes)) src a1) λ ps a2.
    must (not (runs_statement head.procedure && is_empty ps)) parameter_cut
    (whole (record { head = head; parameters = ps }) a2)

-- the call after the headers, which are skipped as in batches; 35 where they cannot be
abbrev pub call_after : Source → Result ℕ HeadersFault → Read Sent
call_after src (Err Short) = refused call_cut
call_after src (Err TooSmall) = refused headers_too_small
call_after src (Err PastEnd) = refused call_cut
call_after src (Ok n) = call_at src n

-- ---- what is answered

-- the parameter of a number, from 0, if there is one
unfoldable pub asked_in : ℕ → List ParameterAt → Option Parameter
asked_in number [] = None
asked_in zero (p ∷ ps) = Some p.parameter
asked_in (suc number) (p ∷ ps) = asked_in number ps

-- the bytes of a value that ends at a place: of an integer those of the number, of a text its own, of a Max value from its first chunk
-- length through the zero one, of null none
abbrev pub bytes_to : ℕ → Value → Place → Part
bytes_to limit (value.Number n) end = part_to (end - limit) end
bytes_to limit (value.Part part) end = part
bytes_to limit (value.Max part) end = part
bytes_to limit value.Null end = part_to end end

-- the value bytes of a parameter: its value ends where it does
abbrev pub value_bytes : ParameterAt → Part
value_bytes p = bytes_to p.parameter.info.limit p.parameter.value p.next

-- the value bytes of the first parameter, if there is one
abbrev pub first_in : List ParameterAt → Option Part
first_in [] = None
first_in (p ∷ ps) = Some (value_bytes p)

-- of a call: its procedure and flags, the parameter of a number, and of a call that runs a statement the statement
abbrev pub told : ℕ → Read Sent → Result Call ℕ
told number (whole call at) =
    Ok (record {
      procedure = call.head.procedure;
      flags = call.head.flags;
      asked = asked_in number call.parameters;
      statement = cond (runs_statement call.head.procedure) (first_in call.parameters) None;
    })
told number (refused n) = Err n

-- what a request answers where the parameter of a number is asked for
unfoldable pub rpc_of : List ℕ → ℕ → Result Call ℕ
rpc_of body number = told number (call_after (body_source body) (all_headers body))
