-- Over tied tables, links lead from rows that are there to rows that are there.
use Rattle.std.proofs.Common.{◌≡◌, inl, inr, ℕ, suc, Bool, true, false, not, ◌&&◌, ◌||◌, ◌==◌, List, [], ◌∷◌, Option, Some, None, Result, refl, sym, ap, subst, ◌∙◌, eq-eqb}
use Rattle.std.specs.Prelude.{IsSome, IsSomeAnd, is_some, is_none, option_and_then}
use Rattle.std.specs.List.{list_any}
use Rattle.std.specs.Option.{option_map_or}
use Rattle.ob_base.specs.declared.id.Cell.{Cell}
use Rattle.ob_base.specs.declared.id.FieldNo.{FieldNo}
use Rattle.ob_base.specs.declared.id.ModelNo.{ModelNo}
use Rattle.ob_base.specs.declared.id.RecId.{RecId}
use Rattle.ob_base.specs.declared.value.Value.{Value}
use Rattle.ob_base.specs.declared.value.Value.TheVariants as value
use Rattle.ob_definition.specs.Types.{is_one2many}
use Rattle.ob_expr.specs.declared.kind.Kind.{Kind}
use Rattle.ob_expr.specs.declared.row.Row.{Row}
use Rattle.ob_expr.specs.declared.typed.Link.{Link}
use Rattle.ob_expr.specs.Computing.{Lack}
use Rattle.ob_expr.specs.Meaning.{cell_in, row_at as place_at}
use Rattle.ob_expr.specs.Reads.{IsAlongPath, IsAmong, LeadsTo}
use Rattle.ob_schema.specs.declared.info.FieldInfo.{FieldInfo}
use Rattle.ob_schema.specs.declared.info.ModelInfo.{ModelInfo}
use Rattle.ob_schema.specs.declared.info.Origin.{Origin}
use Rattle.ob_schema.specs.declared.info.Origin.TheVariants as origin
use Rattle.ob_schema.specs.Fields.{is_plain_from, is_plain_kept}
use Rattle.ob_schema.specs.Models.{FieldHas, IsPlainTo, IsRegistry, IsRouted, field_at}
use Rattle.ob_schema.specs.Tied.{Dangles, IsTied}
use Rattle.ob_schema.specs.Plain.{names, naming, plain_at, plain_by, plain_from}
use Rattle.ob_schema.specs.Tables.{PlainRow, Tables, kept_in, row_at}
use Rattle.ob_tables.proofs.Along.{Leads, link_held, plain_is}
use Rattle.ob_tables.proofs.KnownFields.{Field-at, is_there, some_or_none, tell_and, there_is, told_and}
use Rattle.ob_tables.proofs.NamedBack.{naming-there}
use Rattle.ob_tables.proofs.Stable.{IsDeep, held_by}

-- the row to which a value leads is one that it names
among-any : (id : RecId) (ids : List RecId) → IsAmong id ids → list_any (λ other. other.0 == id.0) ids ≡ true
among-any id [] among = absurd among
among-any id (x ∷ ids) (inl is) = ap (λ (b : Bool). b || list_any (λ (other : RecId). other.0 == id.0) ids) (eq-eqb x.0 id.0 (ap (λ (r : RecId). r.0) (sym is)))
among-any id (x ∷ ids) (inr later) = either (x.0 == id.0) (list_any (λ (other : RecId). other.0 == id.0) ids) (among-any id ids later)
  where
    either : (a b : Bool) → b ≡ true → (a || b) ≡ true
    either true b is = refl
    either false b is = is

-- a value names each row to which it leads
pub leads-names : (v : Value) (id : RecId) → LeadsTo (Some v) id → names id v ≡ true
leads-names (value.Ref other) id leads = eq-eqb other.0 id.0 (ap (λ (r : RecId). r.0) (sym leads))
leads-names (value.Refs ids) id leads = among-any id ids leads
leads-names value.Nil id leads = absurd leads
leads-names (value.Bool b) id leads = absurd leads
leads-names (value.Int n) id leads = absurd leads
leads-names (value.Word text) id leads = absurd leads
leads-names (value.Day n) id leads = absurd leads
leads-names (value.Moment n) id leads = absurd leads

-- three tests that hold hold together
kept_of : (a b m : Bool) → a ≡ true → false ≡ b → m ≡ true → (a && (not b && m)) ≡ true
kept_of a b m p q r = rw (p, ← q, r) refl

-- the plain value of a cell of a row that is there
pub plain_there : (models : List ModelInfo) (tables : Tables) (c : Cell) (row : PlainRow) (f : FieldInfo) → row_at tables c.model c.id ≡ Some row → field_at models c.model c.field ≡ Some f → f.origin ≡ origin.Plain
    → plain_at tables models c ≡ Some (plain_by tables f.inverse f.mirror f c.field c.id row)
plain_there models tables c row f there at from =
    ap (λ (i : Option FieldInfo). option_and_then (λ i. option_and_then (plain_from tables i.origin i c.field c.id) (row_at tables c.model c.id)) i) at
    ∙ ap (λ (r : Option PlainRow). option_and_then (plain_from tables f.origin f c.field c.id) r) there
    ∙ ap (λ (o : Origin). plain_from tables o f c.field c.id row) from

module _ (models : List ModelInfo) (tables : Tables) (registry : IsRegistry models) (tied : IsTied models tables) where
  -- a link leads from a row that is there to one that is there
  pub step_there : (c : Cell) (row : PlainRow) (f : FieldInfo) (target : ModelNo) (id : RecId) → row_at tables c.model c.id ≡ Some row → field_at models c.model c.field ≡ Some f → f.origin ≡ origin.Plain
      → f.relation ≡ Some target
      → LeadsTo (plain_at tables models c) id → IsSome (row_at tables target id)
  step_there c row f target id there at from to leads =
      by f.inverse f.mirror refl refl (subst (λ (o : Option Value). LeadsTo o id) (plain_there models tables c row f there at from) leads)
    where
      back : (field : FieldNo) → IsAmong id (option_map_or (λ to. naming tables to field c.id) f.relation []) → IsSome (row_at tables target id)
      back field among =
          let named = naming-there tables target field c.id id (subst (λ (o : Option ModelNo). IsAmong id (option_map_or (λ to. naming tables to field c.id) o [])) to among) in
          there_is (row_at tables target id) named.0 named.1

      by : (inverse mirror : Option FieldNo) → f.inverse ≡ inverse → f.mirror ≡ mirror → LeadsTo (Some (plain_by tables inverse mirror f c.field c.id row)) id → IsSome (row_at tables target id)
      by (Some inverse) mirror p q on = back inverse on
      by None (Some mirror) p q on = back mirror on
      by None None p q on = elim (some_or_none (row_at tables target id)) [
        | inr some ↦ there_is (row_at tables target id) some.0 some.1
        | inl none ↦ (let right = (Field-at models c.model c.field f registry at).right in
            let kept : is_plain_kept f ≡ true = kept_of (is_plain_from f.origin) (is_one2many f.field_type) (is_none f.mirror) (ap is_plain_from from) (sym (ap is_some p) ∙ right.inverse) (ap is_none q) in
            let plain : plain_at tables models c ≡ Some (kept_in row c.field) =
            plain_there models tables c row f there at from ∙ ap (λ (o : Option FieldNo). Some (plain_by tables o f.mirror f c.field c.id row)) p ∙ ap (λ (o : Option FieldNo). Some (plain_by tables None o f c.field c.id row)) q in
            let missing : IsSomeAnd f.relation (λ to. row_at tables to id ≡ None) = tell_and f.relation target (λ to. row_at tables to id ≡ None) to none in
            let names_it : IsSomeAnd (plain_at tables models c) (λ v. (id : RecId) × (names id v ≡ true) × IsSomeAnd f.relation (λ to. row_at tables to id ≡ None)) =
            tell_and (plain_at tables models c) (kept_in row c.field) (λ v. (id : RecId) × (names id v ≡ true) × IsSomeAnd f.relation (λ to. row_at tables to id ≡ None))
            plain (id, leads-names (kept_in row c.field) id on, missing) in
            let dangles : Dangles models tables c = (
              there_is (row_at tables c.model c.id) row there,
              tell_and (field_at models c.model c.field) f
                  (λ info. (is_plain_kept info ≡ true) × IsSomeAnd (plain_at tables models c) (λ v. (id : RecId) × (names id v ≡ true) × IsSomeAnd info.relation (λ to. row_at tables to id ≡ None))) at (kept, names_it),
            ) in
            absurd (tied.0 c dangles))
      ]

  -- a cell of a field of a row that is there
  abbrev pub IsThere : Cell → Type 0
  IsThere c = IsSome (row_at tables c.model c.id) × IsSome (field_at models c.model c.field)

  -- the cell of a field that is known
  has_there : (row : Row) (field : FieldNo) (P : FieldInfo → Type 0) → IsSome (row_at tables row.model row.id) → FieldHas models P row.model field → IsThere (cell_in row field)
  has_there row field P there has = let t = told_and (field_at models row.model field) P has in (there, there_is (field_at models row.model field) t.0 t.1)

  -- a cell along a path from a row that is there is there too
  pub along_there : (n : ℕ) (h : Cell → Result Value Lack) → IsDeep models tables (suc n) h → (row : Row) (links : List Link) (field : FieldNo) (k : Kind) → IsSome (row_at tables row.model row.id)
      → IsRouted models row.model links field k → (c : Cell) → IsAlongPath (held_by h) row links field c → IsThere c
  along_there n h deep row [] field k there routed c along = subst IsThere (sym along) (has_there row field _ there routed)
  along_there n h deep row (link ∷ links) field k there routed c (inl is) = subst IsThere (sym is) (has_there row link.field _ there routed.0)
  along_there n h deep row (link ∷ links) field k there routed c (inr on) =
      let leads = subst (λ (o : Option Value). LeadsTo o on.0) (link_held models tables n h deep row link routed.0) on.1 in
      let t = told_and (field_at models row.model link.field) (IsPlainTo link.target) routed.0 in
      let r = is_there (row_at tables row.model row.id) there in
      along_there n h deep (place_at link.target on.0) links field k (step_there (cell_in row link.field) r.0 t.0 link.target on.0 r.1 t.1 (plain_is t.0.origin t.2.plain) t.2.leads leads) routed.1 c on.2

  -- and so is the row at its end
  pub leads_there : (row : Row) (links : List Link) (field : FieldNo) (k : Kind) (end : Row) → IsSome (row_at tables row.model row.id) → IsRouted models row.model links field k → Leads models tables row links end
      → IsSome (row_at tables end.model end.id)
  leads_there row [] field k end there routed leads = subst (λ (r : Row). IsSome (row_at tables r.model r.id)) leads there
  leads_there row (link ∷ links) field k end there routed leads =
      let t = told_and (field_at models row.model link.field) (IsPlainTo link.target) routed.0 in
      let r = is_there (row_at tables row.model row.id) there in
      leads_there (place_at link.target leads.0) links field k end (step_there (cell_in row link.field) r.0 t.0 link.target leads.0 r.1 t.1 (plain_is t.0.origin t.2.plain) t.2.leads leads.1) routed.1 leads.2
