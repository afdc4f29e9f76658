-- The least of some rows that a rule denies a caller, row by row.
use Rattle.std.proofs.Common.{◌≡◌, Bool, true, false, cond, ℕ, List, [], ◌∷◌, ◌++◌, Option, Some, None, refl, sym, ap, subst, ◌∙◌}
use Rattle.std.specs.Prelude.{Contains, IfSome}
use Rattle.std.specs.Cmp.{tied_itself}
use Rattle.std.specs.Ordering.{is_lt}
use Rattle.std.specs.declared.cmp.Ordering.{Ordering}
use Rattle.std.specs.declared.cmp.Ordering.TheVariants.{Equal, Greater, Less}
use Rattle.std.proofs.lemmas.List.Elements.{All-nil, All-push, All-weaker, Contains-append_left, Contains-push}
use Rattle.ob_base.specs.Ids.{row_key_cmp}
use Rattle.ob_base.specs.declared.id.RowKey.{RowKey}
use Rattle.ob_base.specs.declared.refusal.Op.{Op}
use Rattle.ob_cache.proofs.CallerLemmas.{stays-then}
use Rattle.ob_cache.specs.Standing.{Holding, Stays}
use Rattle.ob_cache.specs.Telling.{TellsFacts}
use Rattle.ob_io.specs.Store.{Store}
use Rattle.ob_rows.proofs.Questions.{stays-none}
use Rattle.ob_rows.proofs.MissingRows.{told-later}
use Rattle.ob_rows.specs.AskingSteps.{AdmitsBy, TellsDenied, denied_rule, lesser}
use Rattle.ob_rows.specs.declared.asking.Caller.{Caller}
use Rattle.ob_rows.specs.declared.asking.Denied.{Denied}
use Rattle.ob_schema.specs.Facts.{OfAllTold, Told}
use Rattle.ob_tables.proofs.CallerLemmas.{rows_total}

-- no row is below itself
not-below : (row : RowKey) → row_key_cmp row row ≡ Less → ⊥
not-below row is = let e : Equal ≡ Less = sym (tied_itself rows_total row) ∙ is in absurd cc

is-less : (o : Ordering) → is_lt o ≡ true → o ≡ Less
is-less Less e = refl
is-less Equal e = absurd cc
is-less Greater e = absurd cc

not-less : (o : Ordering) → is_lt o ≡ false → o ≡ Less → ⊥
not-less o other is = let e : true ≡ false = sym (ap is_lt is) ∙ other in absurd cc

module _ (by : Caller) (told : Told) (op : Op) where
  -- rules admit a row
  abbrev Passes : RowKey → Type 0
  Passes row = denied_rule by told op row ≡ None

  -- if it is below another
  abbrev Below : RowKey → RowKey → Type 0
  Below row other = row_key_cmp other row ≡ Less → Passes other

  -- none so far
  pub denied-none : TellsDenied by told op [] None
  denied-none = All-nil Passes

  -- one row more that rules admit
  admitted-more : (rows : List RowKey) (least : Option Denied) (row : RowKey) → TellsDenied by told op rows least → Passes row → TellsDenied by told op (rows ++ row ∷ []) least
  admitted-more rows None row so_far passes = All-push Passes rows row so_far passes
  admitted-more rows (Some first) row so_far passes = record {
    among = Contains-append_left rows (row ∷ []) first.row so_far.among;
    denied = so_far.denied;
    least = All-push (Below first.row) rows row so_far.least (λ below. passes);
  }

  -- the first that a rule denies
  first-denied : (rows : List RowKey) (row : RowKey) (rule : List ℕ) → AdmitsBy by told op rows → denied_rule by told op row ≡ Some rule → TellsDenied by told op (rows ++ row ∷ []) (Some (record { row = row; rule = rule }))
  first-denied rows row rule admitted is = record {
    among = Contains-push rows row;
    denied = is;
    least = All-push (Below row) rows row (All-weaker Passes (Below row) (λ other passes below. passes) rows admitted) (λ below. absurd (not-below row below));
  }

  -- of two that rules deny the lesser one
  lesser-denied : (rows : List RowKey) (first : Denied) (row : RowKey) (rule : List ℕ) → TellsDenied by told op rows (Some first) → denied_rule by told op row ≡ Some rule
      → TellsDenied by told op (rows ++ row ∷ []) (lesser (Some first) row (Some rule))
  lesser-denied rows first row rule so_far is = by_order (is_lt (row_key_cmp row first.row)) refl where
    by_order : (b : Bool) → is_lt (row_key_cmp row first.row) ≡ b → TellsDenied by told op (rows ++ row ∷ []) (cond b (Some (record { row = row; rule = rule })) (Some first))
    by_order true less = record {
      among = Contains-push rows row;
      denied = is;
      least = All-push (Below row) rows row
          (All-weaker (Below first.row) (Below row) (λ other passes below. passes (rows_total.trans other row first.row below (is-less (row_key_cmp row first.row) less))) rows so_far.least) (λ below. absurd (not-below row below));
    }
    by_order false more = record {
      among = Contains-append_left rows (row ∷ []) first.row so_far.among;
      denied = so_far.denied;
      least = All-push (Below first.row) rows row so_far.least (λ below. absurd (not-less (row_key_cmp row first.row) more below));
    }

  -- one row more
  pub denied-more : (rows : List RowKey) (least : Option Denied) (row : RowKey) (rule : Option (List ℕ)) → TellsDenied by told op rows least → rule ≡ denied_rule by told op row
      → TellsDenied by told op (rows ++ row ∷ []) (lesser least row rule)
  denied-more rows least row None so_far is = admitted-more rows least row so_far (sym is)
  denied-more rows None row (Some rule) so_far is = first-denied rows row rule so_far (sym is)
  denied-more rows (Some first) row (Some rule) so_far is = lesser-denied rows first row rule so_far (sym is)

-- ---- the rows so far, by an engine that stays

-- it is one of them
abbrev pub IsAmong : List RowKey → Option Denied → Type 0
IsAmong rows least = IfSome least (λ d. Contains rows d.row)

pub among-more : (rows : List RowKey) (least : Option Denied) (row : RowKey) (rule : Option (List ℕ)) → IsAmong rows least → IsAmong (rows ++ row ∷ []) (lesser least row rule)
among-more rows None row None so_far = tt
among-more rows (Some first) row None so_far = Contains-append_left rows (row ∷ []) first.row so_far
among-more rows None row (Some rule) so_far = Contains-push rows row
among-more rows (Some first) row (Some rule) so_far = by_order (is_lt (row_key_cmp row first.row)) where
  by_order : (b : Bool) → IsAmong (rows ++ row ∷ []) (cond b (Some (record { row = row; rule = rule })) (Some first))
  by_order true = Contains-push rows row
  by_order false = Contains-append_left rows (row ∷ []) first.row so_far

-- the least of the rows so far that a rule denies him
pub record IsTesting (kept : Option Store) (held : Holding) (now : Option Store) (new : Holding) (by : Caller) (op : Op) (rows : List RowKey) (least : Option Denied) : Type 0 where
  pub same : Stays kept held now new
  pub told : OfAllTold (TellsFacts kept held) (λ told. TellsDenied by told op rows least)
  pub among : IsAmong rows least

module _ (kept : Option Store) (held : Holding) (by : Caller) (op : Op) where
  -- no row was asked for
  pub testing-none : IsTesting kept held kept held by op [] None
  testing-none = record { same = stays-none kept held; told = λ told tells. denied-none by told op; among = tt }

  module _ (now : Option Store) (new : Holding) (rows : List RowKey) (least : Option Denied) (so_far : IsTesting kept held now new by op rows least) where
    -- one more was
    pub testing-more : (after : Option Store) (next : Holding) (row : RowKey) (rule : Option (List ℕ)) → Stays now new after next → OfAllTold (TellsFacts now new) (λ told. rule ≡ denied_rule by told op row)
        → IsTesting kept held after next by op (rows ++ row ∷ []) (lesser least row rule)
    testing-more after next row rule stays tells = record {
      same = stays-then kept now after held new next so_far.same stays;
      told = λ told is. denied-more by told op rows least row rule (so_far.told told is) (told-later kept now held new so_far.same (λ (told : Told). rule ≡ denied_rule by told op row) tells told is);
      among = among-more rows least row rule so_far.among;
    }

    -- all were
    pub testing-all : (all : List RowKey) → rows ≡ all → IsTesting kept held now new by op all least
    testing-all all whole = subst (λ (rows : List RowKey). IsTesting kept held now new by op rows least) whole so_far
