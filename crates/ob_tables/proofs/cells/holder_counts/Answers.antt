use Rattle.std.proofs.Common.{◌≡◌, ◌∙◌, ℕ, List, Ok, Result, ap, sym, length, unwrap_or, true, IsSome}
use Rattle.std.specs.Prelude.{IfOk}
use Rattle.std.proofs.lemmas.Option.{same_Some}
use Rattle.std.specs.BTreeMap as tree
use Rattle.std.specs.Ordering.{nat_cmp}
use Rattle.ob_base.specs.declared.id.Cell.{Cell}
use Rattle.ob_base.specs.declared.id.RecId.{RecId}
use Rattle.ob_base.specs.declared.value.Value.TheVariants as value
use Rattle.ob_tables.specs.Finding.{Counts, is_mirror}
use Rattle.ob_schema.specs.Plain.{naming}
use Rattle.ob_schema.specs.Tables.{row_at}
use Rattle.ob_tables.proofs.PlainCells.{mirror-value, relation-there}
use Rattle.ob_tables.proofs.cells.holder_counts.Goals as goal

if_ok : {T E : Type 0} (P Q : T → Type 0) (r : Result T E) → ((x : T) → P x → Q x) → IfOk r P → IfOk r Q
if_ok P Q (Ok x) f h = f x h
if_ok P Q _ f h = tt

same_ids : (a b : List RecId) → value.Refs a ≡ value.Refs b → a ≡ b
same_ids a b e = cc

pub count_holders-requires : goal.count_holders-requires
count_holders-requires c =
    relation-there c.args.tables.now.models c.args.tables.now.tables (record { model = c.args.model; id = record { 0 = 1 }; field = c.args.number })
    c.args.field.now c.fit_together.ensures.registry c.requires c.in-Plain-Some-Some.target c.in-Plain-Some-Some.is-2

pub returns-in-Plain-Some-Some : goal.returns-in-Plain-Some-Some
returns-in-Plain-Some-Some c =
    let models = c.args.tables.now.models in
    let t = c.args.tables.now.tables in
    if_ok (λ (counts : tree.BTreeMap ℕ ℕ). (id : RecId) → unwrap_or (tree.get nat_cmp counts id.0) 0 ≡ length (naming t c.in-Plain-Some-Some.target c.in-Plain-Some-Some.mirror id))
    (λ (counts : tree.BTreeMap ℕ ℕ). is_mirror c.args.field.now ≡ true → (id : RecId) → IsSome (row_at t c.args.model id)
    → Counts models t (unwrap_or (tree.get nat_cmp counts id.0) 0) (record { model = c.args.model; id = id; field = c.args.number })) c.count_holders.result
    (λ counts h mirror id there ids is.
    let cell : Cell = record { model = c.args.model; id = id; field = c.args.number } in
    let v = mirror-value models t cell c.args.field.now c.fit_together.ensures.registry c.requires there
    c.in-Plain-Some-Some.is-0 c.in-Plain-Some-Some.mirror c.in-Plain-Some-Some.target c.in-Plain-Some-Some.is-1 c.in-Plain-Some-Some.is-2 in
    h id ∙ ap length (same_ids _ ids (same_Some (value.Refs (naming t c.in-Plain-Some-Some.target c.in-Plain-Some-Some.mirror id)) (value.Refs ids) (sym v.1 ∙ is))))
    c.count_holders.ensures
