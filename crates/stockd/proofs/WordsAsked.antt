-- How a run ends that its words don't ask for, or for which memory is wanting.
use Rattle.std.proofs.Common.{◌≡◌, ℕ, ◌≤◌, ◌⊎◌, Option, Some, None, refl, sym, ◌∙◌, subst, ap, arith, inl, inr}
use Rattle.ob_io.specs.Cause.{Rose}
use Rattle.ob_words.specs.Words.{AsksNoRun, AsksToBeTold, Asked, Command}
use Rattle.ob_words.specs.Words as words
use Rattle.ob_server.specs.Ending.{status_of}
use Rattle.ob_server.specs.declared.ending.Ending.{Ending}
use Rattle.ob_server.specs.declared.ending.Ending.TheVariants as ending
use Rattle.ob_server.proofs.CallerLemmas.{Rose-later}
use Rattle.stockd.specs.Telling.{EndsTelling}
use Rattle.stockd.specs.Outside.{Outside}
use Rattle.stockd.specs.Program.{HasCauses}

-- words that ask for nothing end with status 2, whatever the objects do
pub no_command : (asked : Option Asked) (before after : Outside) (status : ℕ) → status ≡ 2 → asked ≡ None → HasCauses asked before after status
no_command asked before after status is none = record {
  ending = ending.Usage;
  status_is = is;
  differs = λ one. absurd (omega arith);
  usage = λ _. none;
  other_words = λ _. inl is;
  read_fault = λ four. absurd (omega arith);
  write_fault = λ five. absurd (omega arith);
  keeper_fault = λ six. absurd (omega arith);
}

-- where memory is wanting for the words
pub no_room : (asked : Option Asked) (before after : Outside) (status : ℕ) → status ≡ 7 → HasCauses asked before after status
no_room asked before after status is = record {
  ending = ending.NoMemory;
  status_is = is;
  differs = λ one. absurd (omega arith);
  usage = λ two. absurd (omega arith);
  other_words = λ none. inr is;
  read_fault = λ four. absurd (omega arith);
  write_fault = λ five. absurd (omega arith);
  keeper_fault = λ six. absurd (omega arith);
}

-- ---- where help or the version is told

-- how that ends
telling : (rose : Type 0) (why : Ending) → EndsTelling rose why → (why ≡ ending.Done) ⊎ ((why ≡ ending.NoMemory) ⊎ ((why ≡ ending.WriteFault) × rose))
telling rose ending.Done tells = inl refl
telling rose ending.NoMemory tells = inr (inl refl)
telling rose ending.WriteFault tells = inr (inr (refl, tells))
telling rose ending.Differs tells = absurd tells
telling rose ending.Usage tells = absurd tells
telling rose (ending.Module text) tells = absurd tells
telling rose ending.ReadFault tells = absurd tells
telling rose ending.KeeperFault tells = absurd tells
telling rose (ending.Store cell) tells = absurd tells
telling rose (ending.TooLong number) tells = absurd tells

-- with which status
pub told_status : (rose : Type 0) (status : ℕ) (why : Ending) → status ≡ status_of why → EndsTelling rose why → (status ≡ 0) ⊎ ((status ≡ 5) ⊎ (status ≡ 7))
told_status rose status why is tells = by (telling rose why tells) where
  by : (why ≡ ending.Done) ⊎ ((why ≡ ending.NoMemory) ⊎ ((why ≡ ending.WriteFault) × rose)) → (status ≡ 0) ⊎ ((status ≡ 5) ⊎ (status ≡ 7))
  by (inl done) = inl (is ∙ ap status_of done)
  by (inr (inl wanting)) = inr (inr (is ∙ ap status_of wanting))
  by (inr (inr (failed, risen))) = inr (inl (is ∙ ap status_of failed))

-- and with its cause, also where the sink fails once more behind it
module _ (asked : Option Asked) (before after : Outside) (status : ℕ) (is_asked : asked ≡ None → ⊥) where
  done_causes : status ≡ 0 → HasCauses asked before after status
  done_causes is = record {
    ending = ending.Done;
    status_is = is;
    differs = λ one. absurd (omega arith);
    usage = λ two. absurd (omega arith);
    other_words = λ none. absurd (is_asked none);
    read_fault = λ four. absurd (omega arith);
    write_fault = λ five. absurd (omega arith);
    keeper_fault = λ six. absurd (omega arith);
  }

  failed_causes : status ≡ 5 → Rose before.sink_faults after.sink_faults → HasCauses asked before after status
  failed_causes is risen = record {
    ending = ending.WriteFault;
    status_is = is;
    differs = λ one. absurd (omega arith);
    usage = λ two. absurd (omega arith);
    other_words = λ none. absurd (is_asked none);
    read_fault = λ four. absurd (omega arith);
    write_fault = λ five. risen;
    keeper_fault = λ six. absurd (omega arith);
  }

  pub told_causes : (sink_faults : ℕ) (why : Ending) → sink_faults ≤ after.sink_faults → status ≡ status_of why → EndsTelling (Rose before.sink_faults sink_faults) why → HasCauses asked before after status
  told_causes sink_faults why since is tells = by (telling (Rose before.sink_faults sink_faults) why tells) where
    by : (why ≡ ending.Done) ⊎ ((why ≡ ending.NoMemory) ⊎ ((why ≡ ending.WriteFault) × Rose before.sink_faults sink_faults)) → HasCauses asked before after status
    by (inl done) = done_causes (is ∙ ap status_of done)
    by (inr (inl wanting)) = no_room asked before after status (is ∙ ap status_of wanting)
    by (inr (inr (failed, risen))) = failed_causes (is ∙ ap status_of failed) (Rose-later before.sink_faults sink_faults after.sink_faults since risen)

-- ---- words that ask for one thing ask for no other

pub run_asked : (asked : Option Asked) (command : Command) → Some (words.command command) ≡ asked → AsksNoRun asked → ⊥
run_asked asked command is none = subst AsksNoRun (sym is) none

pub not_told : (asked : Option Asked) (command : Command) → Some (words.command command) ≡ asked → AsksToBeTold asked → ⊥
not_told asked command is tells = subst AsksToBeTold (sym is) tells

pub none_told : (asked : Option Asked) → None ≡ asked → AsksToBeTold asked → ⊥
none_told asked is tells = subst AsksToBeTold (sym is) tells

pub some_asked : (asked : Option Asked) (one : Asked) → Some one ≡ asked → asked ≡ None → ⊥
some_asked asked one is none = let same : Some one ≡ None = is ∙ none in let e : ⊥ = cc in e
