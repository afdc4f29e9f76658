-- A value's type and its limits, what commands hold, and the one JSON of a value.
use Rattle.std.proofs.Common.{◌≡◌, ℕ, ℤ, List, [], ◌∷◌, map, Option, Some, None, Result, Ok, Err, sym, ap, ◌∙◌}
use Rattle.std.specs.Prelude.{IfOk, IfSome}
use Rattle.std.specs.List.{All, AllByRecursion}
use Rattle.std.proofs.lemmas.List.Elements.{All-from_recursion}
use Rattle.serde_json.specs.Data.{Data, string}
use Rattle.ob_base.specs.declared.value.Value.{Value}
use Rattle.ob_base.specs.declared.value.Value.TheVariants as value
use Rattle.ob_dates.specs.Texts.{day_from, moment_from}
use Rattle.ob_schema.specs.Fields.{Holds}
use Rattle.ob_definition.specs.Values.{IsValueOf}
use Rattle.ob_definition.specs.declared.field_type.Choice.{Choice}
use Rattle.ob_definition.specs.declared.field_type.FieldType.{FieldType}
use Rattle.ob_definition.specs.declared.field_type.FieldType.TheVariants as type
use Rattle.ob_schema.specs.declared.info.FieldInfo.{FieldInfo}
use Rattle.ob_codec.specs.CommandForms.{AreOrdersJson, HasElements, IsOrderListJson}
use Rattle.ob_codec.specs.Commands.{orders_of}
use Rattle.ob_definition.specs.Values.{HasType}
use Rattle.ob_codec.specs.Held.{HasFieldType, HasIdsAndObjects, HasLimits}
use Rattle.ob_codec.specs.Input.{order_of}
use Rattle.ob_codec.specs.JsonForm.{IsJsonOf}
use Rattle.ob_codec.specs.Steps.{IsCodecResult}
use Rattle.ob_codec.specs.declared.fault.CodecFault.{CodecFault}
use Rattle.ob_codec.specs.declared.input.Command.{Command}
use Rattle.ob_codec.specs.declared.input.Command.TheVariants as command
use Rattle.ob_codec.proofs.CommandForms.{orders_ok}

-- ---- types and limits

pub HasType-from_IsValueOf : (t : FieldType) (choices : List Choice) (v : Value) → IsValueOf t choices v → HasType t choices v
HasType-from_IsValueOf type.Many2one choices (value.Ref id) h = tt
HasType-from_IsValueOf type.One2many choices (value.Refs ids) h = h.rising
HasType-from_IsValueOf type.Many2many choices (value.Refs ids) h = h.0.rising
HasType-from_IsValueOf _ choices _ h = h

pub HasFieldType-from_Holds : (field : Option FieldInfo) (v : Value) → IfSome field (λ info. Holds info v) → HasFieldType field v
HasFieldType-from_Holds None v h = tt
HasFieldType-from_Holds (Some info) v h = HasType-from_IsValueOf info.field_type info.selection v h

pub HasLimits-from_IsValueOf : (t : FieldType) (choices : List Choice) (v : Value) → IsValueOf t choices v → HasLimits t v
HasLimits-from_IsValueOf type.Many2one choices (value.Ref id) h = h
HasLimits-from_IsValueOf type.One2many choices (value.Refs ids) h = h.within
HasLimits-from_IsValueOf type.Many2many choices (value.Refs ids) h = (h.0.within, h.1)
HasLimits-from_IsValueOf _ choices _ h = tt

pub IsValueOf-from_both : (t : FieldType) (choices : List Choice) (v : Value) → HasType t choices v → HasLimits t v → IsValueOf t choices v
IsValueOf-from_both type.Many2one choices (value.Ref id) h limits = limits
IsValueOf-from_both type.One2many choices (value.Refs ids) h limits = record { rising = h; within = limits }
IsValueOf-from_both type.Many2many choices (value.Refs ids) h limits = (record { rising = h; within = limits.0 }, limits.1)
IsValueOf-from_both _ choices _ h limits = h

-- ---- commands

one_whole : (c : Command) (es : List Data) → HasElements (order_of c) es → HasIdsAndObjects c
one_whole (command.Create json) es h = h.3
one_whole (command.Update id json) es h = (h.1, h.2)
one_whole (command.Delete id) es h = h.2
one_whole (command.Unlink id) es h = h.2
one_whole (command.Link id) es h = h.2
one_whole command.Clear es h = tt
one_whole (command.Set ids) es h = h.3

all_whole : (cs : List Command) (ds : List Data) → AreOrdersJson (map order_of cs) ds → AllByRecursion HasIdsAndObjects cs
all_whole [] ds h = tt
all_whole (c ∷ cs) [] h = absurd h
all_whole (c ∷ cs) (d ∷ ds) h = (one_whole c h.0.0 h.0.2, all_whole cs ds h.1)

-- commands that were read name ids and objects
pub read_whole : (r : Result (List Command) CodecFault) (d : Data) → IsCodecResult (map order_of) r (orders_of d) → IfOk r (All HasIdsAndObjects)
read_whole (Ok cs) d is =
    let form : IsOrderListJson (map order_of cs) d = orders_ok (map order_of cs) d is in
    All-from_recursion HasIdsAndObjects cs (all_whole cs form.0 form.2)
read_whole (Err e) d is = tt

-- ---- the one JSON of a value

pub one_json : ((day : ℤ) (a b : List ℕ) → day_from a ≡ Some day → day_from b ≡ Some day → a ≡ b)
    → ((moment : ℤ) (a b : List ℕ) → moment_from a ≡ Some moment → moment_from b ≡ Some moment → a ≡ b)
    → (v : Value) (a b : Data) → IsJsonOf v a → IsJsonOf v b → a ≡ b
one_json days moments (value.Day n) a b p q = p.1 ∙ ap string (days n p.0 q.0 p.2 q.2) ∙ sym q.1
one_json days moments (value.Moment n) a b p q = p.1 ∙ ap string (moments n p.0 q.0 p.2 q.2) ∙ sym q.1
one_json days moments _ a b p q = p ∙ sym q
