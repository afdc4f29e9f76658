-- What the bytes are: no document, one of another form, or one of the form.
use Rattle.std.proofs.Common.{◌≡◌, None, Some, Err, sym, ap, ◌∙◌}
use Rattle.std.proofs.lemmas.Bool.{false≢true}
use Rattle.std.specs.Str.{IsUtf8}
use Rattle.toml.specs.Data.{table}
use Rattle.toml.specs.Parse.{parse_document}
use Rattle.toml.specs.View.{table_view}
use Rattle.ob_load.specs.declared.fault.LoadFault.TheVariants as load
use Rattle.ob_load.specs.declared.fault.ModuleFault.TheVariants as fault
use Rattle.ob_module.specs.Keys.{document}
use Rattle.ob_load.specs.Reading.{whole}
use Rattle.ob_load.proofs.ModuleTexts.{document_of-none, document_of-some, module_from-form, module_from-right, module_from-toml}
use Rattle.ob_load.proofs.Told.{err_is, refused-is}
use Rattle.ob_load.proofs.reading.document_from.Goals as goal

pub returns-in-Err-2-clause-fault : goal.returns-in-Err-2-clause-fault
returns-in-Err-2-clause-fault c = λ faulty same.
    let name = c.args.name.now in
    let bytes = c.args.bytes.now in
    let own = refused-is (whole name fault.Toml) faulty c.refused.result c.refused.ensures.fault (err_is c.refused.result (load.Module faulty) same) in
    let none : IsUtf8 bytes → parse_document bytes ≡ None = c.in-Err.ensures.refused (λ memory. false≢true (sym c.if-is_memory.false ∙ c.is_memory.ensures.1 memory)) in
    module_from-toml name bytes c.requires (document_of-none bytes none) ∙ ap Err (sym own)

pub returns-in-None-clause-read : goal.returns-in-None-clause-read
returns-in-None-clause-read c =
    let d = table_view c.in-Ok.document in
    let is = document_of-some c.args.bytes.now d c.in-Ok.ensures.ok.0 c.in-Ok.ensures.ok.1 in
    let right : document c.args.name.now (table d) ≡ None = sym c.in_ok-wrong_document.ensures ∙ c.in-None.is in
    module_from-right c.args.name.now c.args.bytes.now c.requires d is right

pub returns-in_ok-into_place-in-Some-clause-fault : goal.returns-in_ok-into_place-in-Some-clause-fault
returns-in_ok-into_place-in-Some-clause-fault c = λ faulty same.
    let name = c.args.name.now in
    let bytes = c.args.bytes.now in
    let d = table_view c.in-Ok.document in
    let place = c.in_ok-into_place-in-Some.field-0 in
    let is = document_of-some bytes d c.in-Ok.ensures.ok.0 c.in-Ok.ensures.ok.1 in
    let wrong : document name (table d) ≡ Some place = sym c.in_ok-wrong_document.ensures ∙ c.in-Some.is ∙ ap Some (sym c.in_ok-into_place-in-Some.ensures) in
    let own = refused-is (record { name = name; place = place; fault = fault.Form }) faulty c.refused_at.result c.refused_at.ensures.fault (err_is c.refused_at.result (load.Module faulty) same) in
    module_from-form name bytes c.requires d is place wrong ∙ ap Err (sym own)
