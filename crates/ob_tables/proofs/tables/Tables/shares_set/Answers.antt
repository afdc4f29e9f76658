use Rattle.std.proofs.Common.{◌≡◌, [], map, Option, Some, None, sym, subst, refl, ◌∙◌, rules}
use Rattle.std.specs.Option.{option_map_or}
use Rattle.std.specs.Prelude.{All, Contains}
use Rattle.std.proofs.lemmas.Bool.{false≢true}
use Rattle.ob_base.specs.declared.id.RecId.{RecId}
use Rattle.ob_schema.specs.Broken.{SharesWith}
use Rattle.ob_schema.specs.Models.{model_at}
use Rattle.ob_schema.specs.Tables.{PlainRow, row_at}
use Rattle.ob_schema.specs.declared.info.ModelInfo.{ModelInfo}
use Rattle.ob_tables.specs.Rooms.{shown_row}
use Rattle.ob_tables.specs.Sets.{AreKeptAlike}
use Rattle.ob_tables.proofs.KnownFields.{tell_and, told_and}
use Rattle.ob_tables.proofs.NamedBack.{Stands, stands-among}
use Rattle.ob_tables.proofs.SharedWith.{alike-shares, none-shares, shares-digest, stands-rest}
use Rattle.ob_tables.proofs.tables.Tables.shares_set.Goals as goal
use Rattle.ob_tables.proofs.tables.Tables.shares_set.Goals.{else-ne-via-then-ne+else-is_alike, else-ne-via-else-ne}

pub returns-in_default : goal.returns-in_default
returns-in_default c =
    let models = c.args.self.now.models in
    let m = told_and (model_at models c.args.model) (λ (info : ModelInfo). Contains info.unique c.args.set.now) c.requires in (
      λ told. absurd (false≢true told),
      λ shares. absurd (none-shares models c.args.self.now.tables c.args.model c.args.set.now c.args.id c.fit_together.ensures.registry c.fit_together.ensures.fits m.0 m.1 m.2 (sym c.in_default.ensures) shares.0 shares.1),
    )

pub returns-in_default-digest_in : goal.returns-in_default-digest_in
returns-in_default-digest_in c =
    let models = c.args.self.now.models in
    let t = c.args.self.now.tables in
    let m = told_and (model_at models c.args.model) (λ (info : ModelInfo). Contains info.unique c.args.set.now) c.requires in (
      λ told. absurd (false≢true told),
      λ shares.
          let one = shares-digest models t c.args.model c.args.set.now c.args.id c.fit_together.ensures.registry c.fit_together.ensures.fits m.0 m.1 m.2 (shown_row c.in-Some.own.now) shares.0 (sym c.in-Some.ensures) shares.1 in
          let both : None ≡ Some one.3.0 = c.in_default-digest_in.ensures ∙ one.3.1 in
          absurd cc,
    )

pub loop-entry-init : goal.loop-entry-init
loop-entry-init c other shares =
    let models = c.args.self.now.models in
    let t = c.args.self.now.tables in
    let set = c.args.set.now in
    let m = told_and (model_at models c.args.model) (λ (info : ModelInfo). Contains info.unique set) c.requires in
    let one = shares-digest models t c.args.model set c.args.id c.fit_together.ensures.registry c.fit_together.ensures.fits m.0 m.1 m.2 (shown_row c.in-Some.own.now) other (sym c.in-Some.ensures) shares in
    let of_model = subst (λ (o : Option ModelInfo). Contains (option_map_or (λ info. info.unique) o []) set) (sym m.1) m.2 in
    let among = c.digested-entry-items.ensures other one.0 set one.1 of_model (one.3.2 ∙ sym one.3.1 ∙ sym c.in-Some-digest_in.ensures) in
    subst (λ es. Stands other (map (λ entry. entry.0.id) es)) (sym c.into_iter-entry-iterator.ensures.into_iter_gives) (stands-among other (map (λ entry. entry.0.id) c.digested-entry-items.result) among)

pub returns-then-is_alike : goal.returns-then-is_alike
returns-then-is_alike c =
    let models = c.args.self.now.models in
    let t = c.args.self.now.tables in
    let m = told_and (model_at models c.args.model) (λ (info : ModelInfo). Contains info.unique c.args.set.now) c.requires in
    let own = shown_row c.in-Some.own.now in
    let other = c.in-Some-2.entry.now.id in
    let found = told_and (row_at t c.args.model other) (λ (row : PlainRow). All (AreKeptAlike own row) c.args.set.now) (c.is_alike.ensures.0 c.if-is_alike.true) in
    let apart : c.args.id ≡ other → ⊥ = search rules in (
      λ told. (
        other,
        alike-shares models t c.args.model c.args.set.now c.args.id c.fit_together.ensures.registry c.fit_together.ensures.fits m.0 m.1 m.2 own found.0 other (sym c.in-Some.ensures) found.1 apart found.2,
      ),
      λ shares. refl,
    )

pub loop-entry-preserved : goal.loop-entry-preserved
loop-entry-preserved c other shares =
    let models = c.args.self.now.models in
    let t = c.args.self.now.tables in
    let set = c.args.set.now in
    let m = told_and (model_at models c.args.model) (λ (info : ModelInfo). Contains info.unique set) c.requires in
    let own = shown_row c.in-Some.own.now in
    let first = c.in-Some-2.entry.now.id in
    let P : RecId → Type 0 = λ other. SharesWith models t c.args.model set c.args.id other in
    let not_first : P first → ⊥ = λ shares. elim c.else-ne.branch [
      | else-ne-via-then-ne+else-is_alike w ↦
          let one = shares-digest models t c.args.model set c.args.id c.fit_together.ensures.registry c.fit_together.ensures.fits m.0 m.1 m.2 own first (sym c.in-Some.ensures) shares in
          false≢true (sym w.if-is_alike.false ∙ w.is_alike.ensures.1 (tell_and (row_at t c.args.model first) one.0 (λ (row : PlainRow). All (AreKeptAlike own row) set) one.1 one.2))
      | else-ne-via-else-ne w ↦ shares.0 (let same : c.args.id ≡ first = search rules in same)
    ] in
    stands-rest (λ entry. entry.0.id) c.loop-entry.entry-iterator c.next.new.self _ P c.in-Some-2.ensures.steps not_first other shares (c.loop-entry.invariant other shares)
