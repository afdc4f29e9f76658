use Rattle.std.proofs.Common.{◌⊎◌, ◌↔◌, ◌≡◌, ◌<◌, length, subst}
use Rattle.std.specs.Prelude.{IsTrue}
use Rattle.ob_base.specs.Limits.{max_targets}
use Rattle.ob_definition.specs.declared.field_type.FieldType.TheVariants as type
use Rattle.ob_tables.proofs.Finds.{finds-as, finds-then}
use Rattle.ob_tables.specs.Finding.{BreaksIn, Is, is_of_plain}
use Rattle.ob_base.specs.declared.refusal.BrokenKind.TheVariants as kind
use Rattle.ob_tables.proofs.PlainCells.{Found, KeptFound, kept-to, kept-back}
use Rattle.ob_tables.proofs.cells.find_in_value.Goals as goal

pub returns : goal.returns
returns c =
    let models = c.args.tables.now.models in
    let t = c.args.tables.now.tables in
    let info = c.args.field.now in
    let v = c.args.value.now in
    let w = c.is_wanting-is_wanting in
    let d = c.dangles-dangles in
    let f = c.is_too_full-is_full in
    let F = Found models t c.args.cell info c.requires.field c.requires.row in
    let many = subst (λ ts. IsTrue f.result ↔ ((info.field_type ≡ type.Many2many) × (max_targets < length ts))) c.targets_of.ensures.same f.ensures in
    finds-as (KeptFound models t c.args.cell info c.requires.field c.requires.row v c.requires.value c.requires.kept w.result d.result f.result w.ensures d.ensures many)
    (BreaksIn models t is_of_plain (Is c.args.cell)) c.args.findings.now c.add_if-3.new.findings
    (kept-to models t c.args.cell info c.requires.field c.requires.row v c.requires.value c.requires.kept w.result d.result f.result w.ensures d.ensures many)
    (kept-back models t c.args.cell info c.requires.field c.requires.row v c.requires.value c.requires.kept w.result d.result f.result w.ensures d.ensures many)
    (finds-then (λ b. F w.result kind.Required b ⊎ F d.result kind.MissingRef b) (F f.result kind.Limit) c.args.findings.now c.add_if-2.new.findings c.add_if-3.new.findings
    (finds-then (F w.result kind.Required) (F d.result kind.MissingRef) c.args.findings.now c.add_if.new.findings c.add_if-2.new.findings c.add_if.ensures c.add_if-2.ensures) c.add_if-3.ensures)
