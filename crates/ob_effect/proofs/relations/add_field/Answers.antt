-- One relation more.
use Rattle.std.proofs.Common.{sym, subst}
use Rattle.std.specs.Prelude.{All}
use Rattle.std.proofs.lemmas.List.Elements.{All-push}
use Rattle.ob_effect.proofs.FieldLaws.{relation_kept}
use Rattle.ob_effect.specs.Relations.{IsRelation}
use Rattle.ob_effect.proofs.relations.add_field.Goals as goal

pub returns-in_ok-push : goal.returns-in_ok-push
returns-in_ok-push c = λ all.
    let models = c.args.schema.now in
    let relation = c.in-Some-relation_of.relation in
    let own = relation_kept models c.parts_fit_together.ensures c.args.model c.args.field c.in-Some.info.now (sym c.in-Some.ensures) relation c.in-Some-relation_of.ensures in
    subst (All (IsRelation models)) (sym c.in_ok-push.ensures.items) (All-push (IsRelation models) c.args.relations.now.items relation all own)
