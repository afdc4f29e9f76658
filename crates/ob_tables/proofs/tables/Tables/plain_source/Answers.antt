use Rattle.std.proofs.Common.{◌≡◌, Some, true, false, is_some, option_map, ap, sym, subst, ◌∙◌}
use Rattle.ob_schema.specs.Models.{IsModel, model_at}
use Rattle.ob_schema.specs.Tables.{Fits}
use Rattle.ob_tables.proofs.Sources.{from-naming, has-kept, has-relation}
use Rattle.ob_tables.proofs.tables.Tables.plain_source.Goals as goal

contrary : {P : Type 0} → false ≡ true → P
contrary e = cc

pub returns-in-None : goal.returns-in-None
returns-in-None c =
    let m = c.model_info.result.now in
    let at = subst (λ s. model_at s.models c.args.cell.model ≡ Some m) c.self.view_is c.model_info.ensures.at in
    let law = subst (λ s. IsModel s.models c.args.cell.model m) c.self.view_is c.model_info.ensures.fit in
    let fits = subst (λ s. Fits s.models s.tables) c.self.view_is c.self.invariant.fits in
    contrary (sym (ap is_some (sym c.kept.ensures ∙ ap (option_map (λ value. value.now)) c.in-None.is))
    ∙ has-kept c.args.self.now.models c.args.self.now.tables c.args.cell m c.args.info.now at law c.requires.field fits c.requires.plain c.requires.row (sym c.or.ensures ∙ c.in_default.is))

pub returns-in-Some-relation : goal.returns-in-Some-relation
returns-in-Some-relation c =
    let m = c.model_info.result.now in
    let at = subst (λ s. model_at s.models c.args.cell.model ≡ Some m) c.self.view_is c.model_info.ensures.at in
    let law = subst (λ s. IsModel s.models c.args.cell.model m) c.self.view_is c.model_info.ensures.fit in
    let all = from-naming c.args.self.now.models c.args.self.now.tables c.args.cell m c.args.info.now at law c.requires.field c.requires.plain c.requires.row c.in-Some.back c.in-Some-relation.model
    (sym c.or.ensures ∙ c.in-Some.is) c.in-Some-relation.is in
    all

pub returns-in-None-relation : goal.returns-in-None-relation
returns-in-None-relation c =
    let m = c.model_info.result.now in
    let at = subst (λ s. model_at s.models c.args.cell.model ≡ Some m) c.self.view_is c.model_info.ensures.at in
    let law = subst (λ s. IsModel s.models c.args.cell.model m) c.self.view_is c.model_info.ensures.fit in
    contrary (sym (ap is_some c.in-None-relation.is) ∙ has-relation c.args.self.now.models c.args.self.now.tables c.args.cell m c.args.info.now at law c.requires.field c.in-Some.back (sym c.or.ensures ∙ c.in-Some.is))
