-- What is told of a kept row, by its body and its links.
use Rattle.std.proofs.Common.{◌≡◌, ◌<◌, ◌==◌, ◌&&◌, Bool, inr, ℕ, List, [], Option, Some, None, option_map, sym, ap, subst, ◌∙◌}
use Rattle.std.specs.Prelude.{IfSome}
use Rattle.std.specs.List.{flat_map}
use Rattle.std.specs.Option.{option_map_or}
use Rattle.std.proofs.lemmas.Option.{same_Some}
use Rattle.std.specs.Bool.{Decides}
use Rattle.std.specs.Cmp.Lexicographic.{pointwise}
use Rattle.std.proofs.lemmas.Bool.Decides.{Decides-and, Decides-eqb, Decides-like}
use Rattle.std.proofs.lemmas.Slice.Eq.{slice_eq-Decides}
use Rattle.ob_base.specs.declared.value.Value.{Value}
use Rattle.ob_io.specs.contracts.store.LinkPartialEq.TheImpl.{eq-value}
use Rattle.ob_audit.proofs.KeptForms.{each-back, each_of, links-are}
use Rattle.ob_audit.specs.Rows.{links_of}
use Rattle.ob_audit.specs.Rows.{IsReadAs, plain_row}
use Rattle.ob_audit.specs.Reading.{IsTold, entries, links_for}
use Rattle.ob_codec.proofs.CallerLemmas.{one_row_lem}
use Rattle.ob_codec.specs.RowForm.{HoldAll, row_form}
use Rattle.ob_io.specs.declared.store.KeptRow.{KeptRow}
use Rattle.ob_io.specs.declared.store.Link.{Link}
use Rattle.ob_schema.specs.Fields.{kept_fields}
use Rattle.ob_schema.specs.declared.info.FieldInfo.{FieldInfo}
use Rattle.ob_schema.specs.declared.info.ModelInfo.{ModelInfo}

-- the links of values are those of the plain ones
pub links-read : (info : ModelInfo) (values : List Value) → HoldAll (kept_fields info) values → flat_map links_for (entries info.fields values) ≡ links_of info (plain_row info values)
links-read info values hold =
    subst (λ (vs : List Value). flat_map links_for (entries info.fields vs) ≡ links_of info (plain_row info vs)) (each-back info values hold) (links-are info (each_of info values))

module _ (next : ℕ) (row : KeptRow) where
  -- the same by the fields of the model
  links-of : (info : ModelInfo) (fields : List FieldInfo) (values : List Value) → Some info.fields ≡ Some fields → HoldAll (kept_fields info) values → flat_map links_for (entries fields values) ≡ links_of info (plain_row info values)
  links-of info fields values same hold = ap (λ (l : List FieldInfo). flat_map links_for (entries l values)) (sym (same_Some info.fields fields same)) ∙ links-read info values hold

  -- a row is read as the values of its body, where its links are theirs
  pub told-read : (o : Option ModelInfo) (fields : List FieldInfo) (values : List Value) → option_map (λ info. info.fields) o ≡ Some fields → row.id.0 < next → HoldAll (option_map_or kept_fields o []) values
      → row.body ≡ row_form (option_map_or kept_fields o []) values → flat_map links_for (entries fields values) ≡ row.links → IfSome o (λ info. IsTold next info row (Some values))
  told-read None fields values same low hold body links = tt
  told-read (Some info) fields values same low hold body links = (low, record { hold = hold; body = body; links = sym links ∙ links-of info fields values same hold })

  -- one whose links are others can't be read
  pub told-other : (o : Option ModelInfo) (fields : List FieldInfo) (values : List Value) → option_map (λ info. info.fields) o ≡ Some fields → HoldAll (option_map_or kept_fields o []) values
      → row.body ≡ row_form (option_map_or kept_fields o []) values → (flat_map links_for (entries fields values) ≡ row.links → ⊥) → IfSome o (λ info. IsTold next info row None)
  told-other None fields values same hold body other = tt
  told-other (Some info) fields values same hold body other = inr never
    where
      never : (others : List Value) → IsReadAs info row others → ⊥
      never others read =
          let one = one_row_lem (kept_fields info) values others hold read.hold (sym body ∙ read.body) in
          other (links-of info fields values same hold ∙ ap (λ (vs : List Value). links_of info (plain_row info vs)) one ∙ sym read.links)

  -- nor can one whose body is none
  pub told-bad : (o : Option ModelInfo) → ((values : List Value) → HoldAll (option_map_or kept_fields o []) values → row.body ≡ row_form (option_map_or kept_fields o []) values → ⊥) → IfSome o (λ info. IsTold next info row None)
  told-bad None never = tt
  told-bad (Some info) never = inr (λ values read. never values read.hold read.body)

-- a test of lists of links tells whether they are the same
link-decides : (a b : Link) → Decides (eq-value.it a b) (a ≡ b)
link-decides a b = Decides-like (a.field.0 == b.field.0 && a.target.0 == b.target.0)
    (λ (same : (a.field.0 ≡ b.field.0) × (a.target.0 ≡ b.target.0)) i. record { field = record { 0 = same.0 i }; target = record { 0 = same.1 i } })
    (λ (same : a ≡ b). (ap (λ (l : Link). l.field.0) same, ap (λ (l : Link). l.target.0) same))
    (Decides-and (a.field.0 == b.field.0) (a.target.0 == b.target.0) (Decides-eqb a.field.0 b.field.0) (Decides-eqb a.target.0 b.target.0))

pub links-decide : (xs ys : List Link) (r : Bool) → r ≡ pointwise eq-value.it xs ys → Decides r (xs ≡ ys)
links-decide xs ys r is = slice_eq-Decides link-decides xs ys r is
