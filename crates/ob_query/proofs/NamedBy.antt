-- The fields that the code has of arguments are those that the arguments name.
use Rattle.std.proofs.Common.{◌≡◌, ◌++◌, Bool, true, false, cond, List, [], ◌∷◌, map, Option, Some, None, is_some, refl, sym, ap, subst, ◌∙◌}
use Rattle.std.specs.Prelude.{IfSome, not, unwrap_or}
use Rattle.std.specs.Option.{option_map_or}
use Rattle.ob_base.specs.declared.place.PathStep.{PathStep}
use Rattle.ob_call.specs.Arguments.{Given}
use Rattle.ob_call.specs.Called.{Called}
use Rattle.ob_domain.specs.Naming.{named_fields}
use Rattle.ob_query.specs.Callers.{Named, fields_named, in_turn, is_first, named_of}
use Rattle.ob_query.specs.Callers as callers
use Rattle.ob_query.specs.NamedFields.{Naming, domain_names, is_positioned, name_fields, named_by, names_name, order_names}
use Rattle.ob_query.specs.NamedFields as spec
use Rattle.ob_query.specs.SearchForms.{order_fault, order_given, order_of, tree_given}
use Rattle.ob_query.specs.declared.naming.Naming.{Naming as Own}
use Rattle.ob_schema.specs.Paths.{step_at}
use Rattle.ob_schema.specs.declared.info.ModelInfo.{ModelInfo}
use Rattle.ob_schema.specs.declared.info.OrderTerm.{OrderTerm}
use Rattle.ob_schema.specs.declared.info.Step.{Step}
use Rattle.serde_json.specs.Data.{Data}

-- ---- of several arguments

-- what an argument names, and whether it is given by its position
abbrev pub pair_of : Naming → Named
pair_of n = (is_first n.given, option_map_or (λ g. n.names g.json) n.given [])

one_first : (given : Option Given) (names : Data → List Step) → cond (is_first given) (option_map_or (λ g. names g.json) given []) [] ≡ option_map_or (λ g. cond (is_positioned g.place) (names g.json) []) given []
one_first None names = refl
one_first (Some g) names = refl

one_other : (given : Option Given) (names : Data → List Step) → cond (not (is_first given)) (option_map_or (λ g. names g.json) given []) [] ≡ option_map_or (λ g. cond (not (is_positioned g.place)) (names g.json) []) given []
one_other None names = refl
one_other (Some g) names = refl

firsts : (ns : List Naming) → callers.named_where true (map pair_of ns) ≡ spec.named_where (λ g. is_positioned g.place) ns
firsts [] = refl
firsts (n ∷ ns) =
    ap (λ (l : List Step). l ++ callers.named_where true (map pair_of ns)) (one_first n.given n.names) ∙ ap (λ (l : List Step). option_map_or (λ g. cond (is_positioned g.place) (n.names g.json) []) n.given [] ++ l) (firsts ns)

others : (ns : List Naming) → callers.named_where false (map pair_of ns) ≡ spec.named_where (λ g. not (is_positioned g.place)) ns
others [] = refl
others (n ∷ ns) =
    ap (λ (l : List Step). l ++ callers.named_where false (map pair_of ns)) (one_other n.given n.names)
    ∙ ap (λ (l : List Step). option_map_or (λ g. cond (not (is_positioned g.place)) (n.names g.json) []) n.given [] ++ l) (others ns)

-- in turn they are those that are named
pub named_same : (ns : List Naming) → in_turn (map pair_of ns) ≡ named_by ns
named_same ns =
    ap (λ (l : List Step). l ++ callers.named_where false (map pair_of ns)) (firsts ns) ∙ ap (λ (l : List Step). spec.named_where (λ g. is_positioned g.place) ns ++ l) (others ns)

-- ---- of one

-- what the code has of it, by its parts
pub named_is : (n : Own) (first : Bool) (fields : List Step) → n.positioned ≡ first → n.fields.items ≡ fields → named_of n ≡ (first, fields)
named_is n first fields is are = ap (λ (b : Bool). (b, n.fields.items)) is ∙ ap (λ (l : List Step). (first, l)) are

-- two with the same parts
pub same_pair : (first : Bool) (a b : List Step) → a ≡ b → ◌≡◌ {A = Named} (first, a) (first, b)
same_pair first a b e = ap (λ (l : List Step). (first, l)) e

-- a domain that isn't given names nothing
pub domain_same : (models : List ModelInfo) (c : Called) (given : Option Given) → named_fields c.model (tree_given models c.model given) ≡ option_map_or (λ g. domain_names models c g.json) given []
domain_same models c None = refl
domain_same models c (Some g) = refl

-- an order that is given, and one that isn't
abbrev pub term_step : Called → OrderTerm → Step
term_step c term = step_at c.model term.field

pub order_same : (c : Called) (given : Option Given) → IfSome given (λ g. order_fault c.info.fields g.json ≡ None)
    → option_map_or (λ g. map (term_step c) (order_given c.info given)) given [] ≡ option_map_or (λ g. order_names c g.json) given []
order_same c None fit = refl
order_same c (Some g) fit = by (order_of c.info.fields g.json) fit where
  by : (o : Option (List OrderTerm)) → ◌≡◌ {A = Option (List PathStep)} (cond (is_some o) None (Some [])) None → map (term_step c) (unwrap_or o c.info.order) ≡ map (term_step c) (unwrap_or o [])
  by None fit = absurd cc
  by (Some terms) fit = refl

-- a list of names
pub names_same : (c : Called) (given : Option Given) → map (step_at c.model) (option_map_or (λ g. name_fields c.info.fields g.json) given []) ≡ option_map_or (λ g. names_name c g.json) given []
names_same c None = refl
names_same c (Some g) = refl

-- ---- of all, as the code has them

module _ (a b c : Own) (p q r : Named) (one : named_of a ≡ p) (two : named_of b ≡ q) (three : named_of c ≡ r) where
  pub one_name : fields_named (a ∷ []) ≡ in_turn (p ∷ [])
  one_name = ap (λ (n : Named). in_turn (n ∷ [])) one

  pub two_names : fields_named (a ∷ b ∷ []) ≡ in_turn (p ∷ q ∷ [])
  two_names = ap (λ (n : Named). in_turn (n ∷ named_of b ∷ [])) one ∙ ap (λ (n : Named). in_turn (p ∷ n ∷ [])) two

  pub three_names : fields_named (a ∷ b ∷ c ∷ []) ≡ in_turn (p ∷ q ∷ r ∷ [])
  three_names =
      ap (λ (n : Named). in_turn (n ∷ named_of b ∷ named_of c ∷ [])) one ∙ ap (λ (n : Named). in_turn (p ∷ n ∷ named_of c ∷ [])) two ∙ ap (λ (n : Named). in_turn (p ∷ q ∷ n ∷ [])) three
