-- The terms of an order, as the program takes them from its entries.
use Rattle.std.proofs.Common.{◌≡◌, ℕ, Bool, true, Option, Some, None, option_map, List, [], ◌∷◌, get_or, map, refl, sym, ap, subst, ◌∙◌}
use Rattle.std.specs.List.{list_any}
use Rattle.ob_base.specs.declared.id.FieldNo.{FieldNo}
use Rattle.ob_definition.specs.declared.orders.OrderEntry.{OrderEntry}
use Rattle.ob_definition.specs.Members.{Member}
use Rattle.ob_definition.specs.Orders.{Term, term_of_entry, terms_of}
use Rattle.ob_definition.proofs.CallerLemmas.{list_any-map}
use Rattle.ob_schema.specs.declared.info.OrderTerm.{OrderTerm}
use Rattle.ob_registry.specs.Building.{AreNumbers}
use Rattle.ob_registry.specs.Faults.{HasUnknown, is_unknown, names_of_terms}
use Rattle.ob_registry.specs.ModelFields.{number_in}
use Rattle.ob_registry.proofs.NumbersOf.{all_numbers, unknown_name}
use Rattle.ob_registry.proofs.Somes.{kept_all, map-map, none_passes, somes, with_value}

abbrev pub term_at : Bool → Option FieldNo → Option OrderTerm
term_at descending number = option_map (λ n. record { field = n; descending = descending }) number

-- the term of an entry, if its field is there
abbrev pub term_found : List Member → OrderEntry → Option OrderTerm
term_found members entry = term_at entry.descending (number_in members entry.name.now)

missing_term : (descending : Bool) (number : Option FieldNo) → term_at descending number ≡ None → number ≡ None
missing_term descending None e = refl
missing_term descending (Some n) e = absurd (cc)

term_direction : (descending : Bool) (number : Option FieldNo) (term : OrderTerm) → term_at descending number ≡ Some term → term.descending ≡ descending
term_direction descending None term e = absurd (cc)
term_direction descending (Some n) term e =
    let own : OrderTerm = record { field = n; descending = descending } in
    let same : own ≡ term = cc in
    ap (λ (t : OrderTerm). t.descending) (sym same)

module _ (members : List Member) where
  -- the fields of the terms are the numbers of their names
  fields_found : (entries : List OrderEntry) → map (λ (t : OrderTerm). t.field) (somes (map (term_found members) entries)) ≡ somes (map (number_in members) (names_of_terms (terms_of entries)))
  fields_found [] = refl
  fields_found (e ∷ es) = by (number_in members e.name.now) (fields_found es)
    where
      fields : List OrderTerm → List FieldNo
      fields terms = map (λ (t : OrderTerm). t.field) terms

      by : (o : Option FieldNo) → map (λ (t : OrderTerm). t.field) (somes (map (term_found members) es)) ≡ somes (map (number_in members) (names_of_terms (terms_of es)))
          → map (λ (t : OrderTerm). t.field) (with_value (term_at e.descending o) (somes (map (term_found members) es))) ≡ with_value o (somes (map (number_in members) (names_of_terms (terms_of es))))
      by None rest = rest
      by (Some n) rest = ap (λ (l : List FieldNo). n ∷ l) rest

  pub terms_numbered : (entries : List OrderEntry) → AreNumbers members (names_of_terms (terms_of entries)) (map (λ (t : OrderTerm). t.field) (somes (map (term_found members) entries)))
  terms_numbered entries = subst (λ (l : List FieldNo). AreNumbers members (names_of_terms (terms_of entries)) l) (sym (fields_found entries)) (all_numbers members (names_of_terms (terms_of entries)))

  -- and each has its direction
  pub terms_directed : (entries : List OrderEntry) → (HasUnknown members (names_of_terms (terms_of entries)) → ⊥)
      → map (λ (t : OrderTerm). t.descending) (somes (map (term_found members) entries)) ≡ map (λ (t : Term). t.descending) (terms_of entries)
  terms_directed entries known =
      let name = λ (e : OrderEntry). e.name.now in
      let none : list_any (λ (e : OrderEntry). is_unknown members e.name.now) entries ≡ true → ⊥ = λ e.
      known (ap (λ (l : List (List ℕ)). list_any (is_unknown members) l) (map-map term_of_entry (λ (t : Term). t.name) entries) ∙ list_any-map (is_unknown members) name entries ∙ e) in
      kept_all (term_found members) (λ (t : OrderTerm). t.descending) (λ (e : OrderEntry). e.descending) (λ e t found. term_direction e.descending (number_in members e.name.now) t found) entries
      (λ k d within e. none_passes (λ (e : OrderEntry). is_unknown members e.name.now) entries none k d within
      (unknown_name members (get_or entries k d).name.now (missing_term (get_or entries k d).descending (number_in members (get_or entries k d).name.now) e)))
      ∙ sym (map-map term_of_entry (λ (t : Term). t.descending) entries)
