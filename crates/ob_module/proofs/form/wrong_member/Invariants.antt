use Rattle.std.proofs.Common.{◌≡◌}
use Rattle.toml.specs.View.{members_view, table_view}
use Rattle.ob_module.specs.Forms.{wrong_member}
use Rattle.ob_module.proofs.form.wrong_member.Given as goal

abbrev pub invariant-loop-key : goal.invariant-loop-key
invariant-loop-key g l =
    wrong_member (g.K.Keys.keys l.keys) (g.K.Keys.missing l.keys (table_view l.table)) (table_view l.table)
    ≡ wrong_member (g.K.Keys.keys l.keys) (g.K.Keys.missing l.keys (table_view l.table)) (members_view l.key-iterator)
