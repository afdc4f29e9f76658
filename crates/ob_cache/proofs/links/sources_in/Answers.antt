use Rattle.std.proofs.Common.{◌≡◌, List, Some, ap, filter, is_some, sym, ◌∙◌}
use Rattle.std.proofs.lemmas.Result.{IfOk-weaker}
use Rattle.std.specs.Prelude.{[], ◌∷◌, cond}
use Rattle.ob_base.specs.Rising.{IsRising}
use Rattle.ob_base.specs.declared.id.RecId.{RecId}
use Rattle.ob_cache.proofs.Leading.{both-ok, field-back, leading-back, leading-kept, leading-own, leads-alone, leads-plain, or-none}
use Rattle.ob_schema.specs.Links.{Leads, leading_to, led_to}
use Rattle.ob_schema.specs.Models.{field_at}
use Rattle.ob_schema.specs.Plain.{naming}
use Rattle.ob_schema.specs.Tables.{row_at}
use Rattle.ob_schema.specs.declared.info.ModelInfo.{ModelInfo}
use Rattle.ob_tables.proofs.CallerLemmas.{known_at, tell_and}
use Rattle.ob_cache.proofs.links.sources_in.Goals as goal

pub named_rows-requires-clause-leads : goal.named_rows-requires-clause-leads
named_rows-requires-clause-leads c =
    let models = c.args.tables.now.models in
    let f = c.info-info.result.now in
    let at : field_at models c.args.model c.args.field ≡ Some f = ap (λ (m : List ModelInfo). field_at m c.args.model c.args.field) c.requires.over ∙ c.info-info.ensures in
    let leads = known_at (field_at models c.args.model c.args.field) f Leads at c.requires.leads in
    let registry = c.fit_together.ensures.registry in
    let relation = c.in-Some-Some.relation in
    let back = c.in-Some-Some.back in
    let plain = leads-plain models registry c.args.model c.args.field f at leads relation c.in-Some-Some.is-0 in
    let other = field-back models registry c.args.model c.args.field f at plain relation c.in-Some-Some.is-0 back (sym c.or.ensures ∙ c.in-Some-Some.is-1) in
    tell_and (field_at models relation back) other.0 Leads other.1.at other.2

pub returns-in-Some-Some : goal.returns-in-Some-Some
returns-in-Some-Some c =
    let models = c.args.tables.now.models in
    let tables = c.args.tables.now.tables in
    let f = c.info-info.result.now in
    let at : field_at models c.args.model c.args.field ≡ Some f = ap (λ (m : List ModelInfo). field_at m c.args.model c.args.field) c.requires.over ∙ c.info-info.ensures in
    let leads = known_at (field_at models c.args.model c.args.field) f Leads at c.requires.leads in
    let registry = c.fit_together.ensures.registry in
    let relation = c.in-Some-Some.relation in
    let back = c.in-Some-Some.back in
    let is_back = sym c.or.ensures ∙ c.in-Some-Some.is-1 in
    let plain = leads-plain models registry c.args.model c.args.field f at leads relation c.in-Some-Some.is-0 in
    let other = field-back models registry c.args.model c.args.field f at plain relation c.in-Some-Some.is-0 back is_back in
    both-ok c.named_rows.result IsRising (λ (ids : List RecId). ids ≡ filter (λ id. is_some (row_at tables c.args.model id)) (led_to models tables (record { model = relation; id = c.args.target; field = back })))
    (λ (ids : List RecId). ids ≡ leading_to models tables c.args.model c.args.field c.args.target)
    (λ ids rising is. leading-back models tables registry c.args.model c.args.field c.args.target f at plain relation c.in-Some-Some.is-0 back is_back other.0 other.1 ids rising is)
    c.named_rows.ensures.rising c.named_rows.ensures.there

pub returns-in-Some-None : goal.returns-in-Some-None
returns-in-Some-None c =
    let models = c.args.tables.now.models in
    let tables = c.args.tables.now.tables in
    let f = c.info-info.result.now in
    let at : field_at models c.args.model c.args.field ≡ Some f = ap (λ (m : List ModelInfo). field_at m c.args.model c.args.field) c.requires.over ∙ c.info-info.ensures in
    let leads = known_at (field_at models c.args.model c.args.field) f Leads at c.requires.leads in
    let registry = c.fit_together.ensures.registry in
    let plain = leads-plain models registry c.args.model c.args.field f at leads c.in-Some-None.field-0-0 c.in-Some-None.is-0 in
    let none = or-none f.inverse f.mirror (sym c.or.ensures ∙ c.in-Some-None.is-1) in
    IfOk-weaker c.naming.result (λ (ids : List RecId). ids ≡ naming tables c.args.model c.args.field c.args.target) (λ (ids : List RecId). ids ≡ leading_to models tables c.args.model c.args.field c.args.target)
    (λ ids is. is ∙ leading-kept models tables registry c.args.model c.args.field c.args.target f at (record { at = at; plain = plain; no_inverse = none.0; no_mirror = none.1 })) c.naming.ensures

pub returns-in-None-default : goal.returns-in-None-default
returns-in-None-default c =
    let models = c.args.tables.now.models in
    let tables = c.args.tables.now.tables in
    let f = c.info-info.result.now in
    let at : field_at models c.args.model c.args.field ≡ Some f = ap (λ (m : List ModelInfo). field_at m c.args.model c.args.field) c.requires.over ∙ c.info-info.ensures in
    let leads = known_at (field_at models c.args.model c.args.field) f Leads at c.requires.leads in
    let registry = c.fit_together.ensures.registry in
    let id = leads-alone models registry c.args.model c.args.field f at leads c.in-None-default.is-0 in
    IfOk-weaker c.only_if.result (λ (ids : List RecId). ids ≡ cond c.has_row.result (c.args.target ∷ []) []) (λ (ids : List RecId). ids ≡ leading_to models tables c.args.model c.args.field c.args.target)
    (λ ids is. leading-own models tables registry c.args.model c.args.field c.args.target f at id ids (is ∙ ap (λ b. cond b (c.args.target ∷ []) []) c.has_row.ensures)) c.only_if.ensures
