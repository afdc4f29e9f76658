-- What JSON gives a field fits it, and the objects of commands are no deeper than the JSON.
use Rattle.std.proofs.Common.{◌≡◌, ℕ, zero, suc, max, get_or, length, ◌<◌, ◌≤◌, true, List, [], ◌∷◌, map, Some, Result, Ok, Err, refl, sym, ap, subst, ◌∙◌, arith}
use Rattle.std.specs.Prelude.{All, IfOk, IfSome}
use Rattle.serde_json.specs.Data.{Data, depth, items_depth}
use Rattle.serde_json.specs.View.{items_of}
use Rattle.ob_base.specs.declared.id.FieldNo.{FieldNo}
use Rattle.ob_base.specs.declared.id.ModelNo.{ModelNo}
use Rattle.ob_codec.proofs.CallerLemmas.{HasType-from_IsValueOf}
use Rattle.ob_codec.specs.CommandForms.{AreOrdersJson, IsOrderJson, IsOrderListJson, list_json}
use Rattle.ob_codec.specs.Commands.{orders_of}
use Rattle.ob_codec.specs.Held.{GivesHeld, HasIdsAndObjects, HaveIdsAndObjects, IsHeldAs}
use Rattle.ob_codec.specs.Input.{Order, create, update, order_of}
use Rattle.ob_codec.specs.JsonForm.{IsInput}
use Rattle.ob_codec.specs.declared.fault.CodecFault.{CodecFault}
use Rattle.ob_codec.specs.declared.input.Command.{Command}
use Rattle.ob_codec.specs.declared.input.Command.TheVariants as command
use Rattle.ob_codec.specs.declared.input.Input.{Input}
use Rattle.ob_codec.specs.declared.input.Input.TheVariants as input
use Rattle.ob_effect.specs.Objects.{IsInputFor, command_depth, deepest, input_depth}
use Rattle.ob_definition.specs.Types.{is_list}
use Rattle.ob_schema.specs.Fields.{IsGivable}
use Rattle.ob_schema.specs.Models.{HasField, field_at}
use Rattle.ob_schema.specs.declared.info.FieldInfo.{FieldInfo}
use Rattle.ob_schema.specs.declared.info.ModelInfo.{ModelInfo}
use Rattle.ob_tables.proofs.CallerLemmas.{is_there, known_if, tell_and}

-- ---- depths

-- how deep the object of an order is
abbrev order_depth : Order → ℕ
order_depth (create values) = depth values
order_depth (update id values) = depth values
order_depth _ = 0

-- a command's is that of its order
same_depth : (c : Command) → command_depth c ≡ order_depth (order_of c)
same_depth (command.Create json) = refl
same_depth (command.Update id json) = refl
same_depth _ = refl

-- it stands in the order's JSON
order_within : (order : Order) (d : Data) → IsOrderJson order d → order_depth order ≤ depth d
order_within (create values) d h =
    let (elements, is, (x, are, scalar, object)) = h in
    let whole : depth d ≡ suc (max 0 (max (depth x) (max (depth values) 0))) = ap depth (is ∙ ap list_json are) in
    omega arith
order_within (update id values) d h =
    let (elements, is, (are, own, object)) = h in
    let whole : depth d ≡ suc (max 0 (max 0 (max (depth values) 0))) = ap depth (is ∙ ap list_json are) in
    omega arith
order_within _ d h = omega arith

-- so those of commands stand in a list of such JSON
orders_within : (cs : List Command) (ds : List Data) → AreOrdersJson (map order_of cs) ds → deepest cs ≤ items_depth (items_of ds)
orders_within [] ds h = omega arith
orders_within (c ∷ cs) [] h = absurd h
orders_within (c ∷ cs) (d ∷ ds) h =
    let own = order_within (order_of c) d h.0 in
    let same = same_depth c in
    let more = orders_within cs ds h.1 in
    omega arith

pub commands_within : (cs : List Command) (d : Data) → IsOrderListJson (map order_of cs) d → deepest cs < depth d
commands_within cs d h =
    let (ds, is, are) = h in
    let own = orders_within cs ds are in
    let whole : depth d ≡ suc (items_depth (items_of ds)) = ap depth is in
    omega arith

-- one of them is no deeper than all
pub command-at : (cs : List Command) (i : ℕ) (d : Command) → i < length cs → command_depth (get_or cs i d) ≤ deepest cs
command-at [] i d lt = absurd (omega (arith, lt))
command-at (c ∷ cs) zero d lt = omega arith
command-at (c ∷ cs) (suc i) d lt = let more = command-at cs i d (omega arith) in omega arith

-- the next of them
pub command-next : (cs ds : List Command) (i : ℕ) (x : Command) → ds ≡ cs → i < length ds → x ≡ get_or ds i x → command_depth x ≤ deepest cs
command-next cs ds i x same lt is = subst (λ (es : List Command). command_depth x ≤ deepest es) same (subst (λ (c : Command). command_depth c ≤ deepest ds) (sym is) (command-at ds i x lt))

pub held-next : (cs ds : List Command) (i : ℕ) (x : Command) → ds ≡ cs → i < length ds → x ≡ get_or ds i x → All HasIdsAndObjects cs → HasIdsAndObjects x
held-next cs ds i x same lt is all = subst HasIdsAndObjects (sym is) (subst (All HasIdsAndObjects) (sym same) all i x lt)

-- ---- what a field is given

module _ (models : List ModelInfo) (model : ModelNo) (field : FieldNo) (d : Data) where
  -- it fits
  input_fits : (f : FieldInfo) (i : Input) → field_at models model field ≡ Some f → IsInput f.field_type f.selection d i → IsHeldAs f.field_type f.selection i → HaveIdsAndObjects i → IsInputFor models model field i
  input_fits f (input.Plain v) at is held ids = tell_and (field_at models model field) f (λ info. IsGivable info v) at (HasType-from_IsValueOf f.field_type f.selection v held)
  input_fits f (input.Commands cs) at is held ids = (tell_and (field_at models model field) f (λ info. is_list info.field_type ≡ true) at is.0, ids)

  abbrev Gives : Input → Type 0
  Gives i = IfSome (field_at models model field) (λ info. IsInput info.field_type info.selection d i)

  pub given_fits : (r : Result Input CodecFault) → HasField models model field → IfOk r Gives → IfOk r (GivesHeld (field_at models model field)) → IfOk r HaveIdsAndObjects → IfOk r (IsInputFor models model field)
  given_fits (Ok i) there is held ids =
      let (f, at) = is_there (field_at models model field) there in
      input_fits f i at (known_if (field_at models model field) f (λ info. IsInput info.field_type info.selection d i) at is)
      (known_if (field_at models model field) f (λ info. IsHeldAs info.field_type info.selection i) at held) ids
  given_fits (Err why) there is held ids = tt

  -- and is no deeper
  input_within : (f : FieldInfo) (i : Input) → ((orders : List Order) (d : Data) → orders_of d ≡ Ok orders → IsOrderListJson orders d) → IsInput f.field_type f.selection d i → input_depth i ≤ depth d
  input_within f (input.Plain v) law is = omega arith
  input_within f (input.Commands cs) law is = let own = commands_within cs d (law (map order_of cs) d is.1) in omega arith

  pub given_within : (r : Result Input CodecFault) → HasField models model field → ((orders : List Order) (d : Data) → orders_of d ≡ Ok orders → IsOrderListJson orders d) → IfOk r Gives → IfOk r (λ i. input_depth i ≤ depth d)
  given_within (Ok i) there law is =
      let (f, at) = is_there (field_at models model field) there in
      input_within f i law (known_if (field_at models model field) f (λ info. IsInput info.field_type info.selection d i) at is)
  given_within (Err why) there law is = tt
