-- Questions behind one another are one question to an engine.
use Rattle.std.proofs.Common.{◌≤◌, ℕ, Option, refl, ◌∙◌, arith}
use Rattle.ob_cache.proofs.ReadPages.{rose-later}
use Rattle.ob_cache.specs.Standing.{Holding, Stays}
use Rattle.ob_cache.specs.Telling.{FailsFacts, TellsFacts}
use Rattle.ob_cache.specs.declared.fault.ReadFault.{ReadFault}
use Rattle.ob_cache.specs.declared.fault.ReadFault.TheVariants as read_fault
use Rattle.ob_io.specs.Cause.{Rose}
use Rattle.ob_io.specs.Store.{Store}
use Rattle.ob_schema.specs.Facts.{Asked, nothing, one_more}

pub stays-itself : (kept : Option Store) (held : Holding) → Stays kept held kept held
stays-itself kept held = record { kept = refl; models = refl; phase_is = refl; next_ids = λ bound low up. up; stands = λ at is. is; only = λ at is. is }

-- one question behind another
pub stays-then : (a b c : Option Store) (x y z : Holding) → Stays a x b y → Stays b y c z → Stays a x c z
stays-then a b c x y z first second = record {
  kept = second.kept ∙ first.kept;
  models = second.models ∙ first.models;
  phase_is = second.phase_is ∙ first.phase_is;
  next_ids = λ bound low up. second.next_ids bound low (first.next_ids bound low up);
  stands = λ at is. second.stands at (first.stands at is);
  only = λ at is. first.only at (second.only at is);
}

pub no-fall-then : (a b c : ℕ) → a ≤ b → b ≤ c → a ≤ c
no-fall-then a b c first second = omega arith

pub no-fall-itself : (a : ℕ) → a ≤ a
no-fall-itself a = omega arith

-- what fails behind questions fails so from the first of them on
pub fails-behind : (a b : Option Store) (x y : Holding) (i j k : ℕ) → Stays a x b y → i ≤ j → (fault : ReadFault) → FailsFacts (TellsFacts b y) (Rose j k) fault → FailsFacts (TellsFacts a x) (Rose i k) fault
fails-behind a b x y i j k stays low read_fault.Missing fails = λ told t. fails told (t.0, stays.stands t.0 t.1, t.2, t.3)
fails-behind a b x y i j k stays low read_fault.Keeper fails = rose-later i j k low fails
fails-behind a b x y i j k stays low read_fault.NoMemory fails = tt

-- a relation that holds of anyone and itself, and goes on, holds of what questions lead to
pub asked-one : {S : Type 0} (asks : S → S → Type 0) → ((s : S) → asks s s) → ((a b c : S) → asks a b → asks b c → asks a c) → (first now : S) → Asked asks first now → asks first now
asked-one asks itself then first now (nothing _) = itself first
asked-one asks itself then first now (one_more _ mid _ more last) = then first mid now (asked-one asks itself then first mid more) last
