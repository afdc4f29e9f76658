use Rattle.std.proofs.Common.{◌≡◌, ◌<◌, ℕ, List, ap, get_or, length, subst, sym, ◌∙◌, arith}
use Rattle.std.specs.Prelude.{All}
use Rattle.std.proofs.lemmas.List.{length_push}
use Rattle.ob_install.proofs.PlacedRows.{count_of, made-more, whole-course}
use Rattle.ob_install.proofs.PresetRows.{all-known, its-model, its-names, its-types}
use Rattle.ob_install.proofs.installing.placing.place_rows.Goals as goal
use Rattle.ob_install.specs.InstallSteps.{IsOfModels, NamesAmong}
use Rattle.ob_schema.specs.declared.preset.PresetRow.{PresetRow}

pub place_row-requires-clause-model : goal.place_row-requires-clause-model
place_row-requires-clause-model c = its-model c.args.maker.now.schema.now c.args.rows.now c.requires.preset c.loop-row.row-index c.row-item.result c.loop-row-test.true c.row-item.is

pub place_row-requires-clause-named : goal.place_row-requires-clause-named
place_row-requires-clause-named c =
    subst (λ (n : ℕ). All (λ given. NamesAmong n given.1) c.row-item.result.values) (sym c.loop-row.invariant.count)
    (its-names c.args.maker.now.schema.now c.args.rows.now c.requires.preset c.loop-row.row-index c.row-item.result c.loop-row-test.true c.row-item.is)

pub place_row-requires-clause-typed : goal.place_row-requires-clause-typed
place_row-requires-clause-typed c =
    its-types c.args.maker.now.schema.now c.args.rows.now c.requires.preset c.loop-row.row-index c.row-item.result c.loop-row-test.true c.row-item.is c.loop-row.placed.ids.items c.loop-row.invariant.fit.low c.loop-row.invariant.count

pub loop-row-preserved : goal.loop-row-preserved
loop-row-preserved c =
    let models = c.args.maker.now.schema.now in
    let rows = c.args.rows.now in
    let row = c.row-item.result in
    let old = c.loop-row.placed in
    let new = c.place_row.new.placed in
    let known = c.loop-row.invariant in
    let says = c.in_ok-place_row.ensures in
    let count : count_of old ≡ c.loop-row.row-index = known.count in
    let within : count_of old < length rows = let lt = c.loop-row-test.true in omega (arith, count, lt) in
    record {
      fit = says.placed;
      rows = ap (λ r. r.now) says.behind.rows ∙ known.rows;
      count = let one = ap length says.behind.ids in let push = length_push old.ids.items says.behind.id in omega (arith, one, push, count);
      made = λ holds.
          let so = known.made holds in
          made-more models c.args.maker.now.author rows old new row says.behind known.fit.counted within (ap (λ (n : ℕ). get_or rows n row) count ∙ sym c.row-item.is) (says.made so.next) so;
    }

pub returns-clause-whole : goal.returns-clause-whole
returns-clause-whole c =
    let models = c.args.maker.now.schema.now in
    let rows = c.args.rows.now in
    let known = c.loop-row.invariant in
    let end : c.loop-row.row-index ≡ length rows = let out = c.loop-row-test.false in let up = c.loop-row.auto.row-index-end in omega (arith, out, up) in
    record {
      fit = known.fit;
      each = known.count ∙ end ∙ sym (ap (λ (rs : List PresetRow). length rs) known.rows);
      known = subst (All (IsOfModels models)) (sym known.rows) (all-known models rows c.requires.preset);
    }

pub returns-clause-made : goal.returns-clause-made
returns-clause-made c = λ holds.
    let rows = c.args.rows.now in
    let known = c.loop-row.invariant in
    let end : c.loop-row.row-index ≡ length rows = let out = c.loop-row-test.false in let up = c.loop-row.auto.row-index-end in omega (arith, out, up) in
    whole-course c.args.maker.now.schema.now c.args.maker.now.author rows c.loop-row.placed known.rows (known.count ∙ end) (known.made holds)
