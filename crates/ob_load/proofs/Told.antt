-- Which faults are told.
use Rattle.std.proofs.Common.{◌≡◌, ◌≢◌, ℕ, List, Option, Result, Ok, Err, refl, sym, ap, subst, ◌∙◌}
use Rattle.std.specs.Prelude.{IfErr, IsErrOf}
use Rattle.ob_load.specs.declared.fault.FaultyModule.{FaultyModule}
use Rattle.ob_load.specs.declared.fault.LoadFault.{LoadFault}
use Rattle.ob_load.specs.declared.fault.LoadFault.TheVariants as load
use Rattle.ob_load.specs.declared.fault.ModuleFault.TheVariants as fault
use Rattle.ob_load.specs.Rooms.{IsOfText, Refuses, ToldAbsent}
use Rattle.ob_load.specs.Texts.{AgreesWith, FileTexts}

-- what holds of texts that files may hold, of the same files and the same name
pub told-same : (P : FileTexts → List ℕ → Type 0) (own told : Option FileTexts) (called name : List ℕ) → own ≡ told → called ≡ name
    → (texts : FileTexts) × AgreesWith own texts × P texts called → (texts : FileTexts) × AgreesWith told texts × P texts name
told-same P own told called name same named (texts, agree, is) = (texts, subst (λ (o : Option FileTexts). AgreesWith o texts) same agree, subst (P texts) named is)

-- a module that is told is the one that is refused
pub refused-is : (own faulty : FaultyModule) (why : LoadFault) → Refuses own why → why ≡ load.Module faulty → faulty ≡ own
refused-is own faulty why refuses is =
    let other : why ≢ load.NoMemory = λ none. let e : ◌≡◌ {A = LoadFault} (load.Module faulty) load.NoMemory = sym is ∙ none in cc in
    let same : ◌≡◌ {A = LoadFault} (load.Module faulty) (load.Module own) = sym is ∙ refuses other in
    cc

-- one that is refused for another reason isn't told to be absent
pub told-refused : (texts : Option (List ℕ → Option (List ℕ))) (rose : Type 0) (own : FaultyModule) (why : LoadFault) → Refuses own why → own.fault ≢ fault.Absent → ToldAbsent texts rose why
told-refused texts rose own (load.Module faulty) refuses other = λ absent. absurd (other (ap (λ (f : FaultyModule). f.fault) (sym (refused-is own faulty (load.Module faulty) refuses refl)) ∙ absent))
told-refused texts rose own load.File refuses other = tt
told-refused texts rose own load.NoMemory refuses other = tt

pub err_is : {T E : Type 0} (a b : E) → ◌≡◌ {A = Result T E} (Err a) (Err b) → a ≡ b
err_is a b same = cc

-- what is told of a text that was read is never that it is absent, and no fault of the files
pub told-of-text : {T : Type 0} (texts : Option (List ℕ → Option (List ℕ))) (rose : Type 0) (r : Result T LoadFault) → IfErr r IsOfText → IfErr r (ToldAbsent texts rose)
told-of-text texts rose (Ok x) is = tt
told-of-text texts rose (Err (load.Module faulty)) is = λ absent. absurd (is absent)
told-of-text texts rose (Err load.File) is = absurd is
told-of-text texts rose (Err load.NoMemory) is = tt

pub no-file : {T : Type 0} (r : Result T LoadFault) → IfErr r IsOfText → IsErrOf r load.File → ⊥
no-file {T} (Ok x) is file = let e : ◌≡◌ {A = Result T LoadFault} (Ok x) (Err load.File) = file in cc
no-file (Err (load.Module faulty)) is file = let e : ◌≡◌ {A = LoadFault} (load.Module faulty) load.File = err_is (load.Module faulty) load.File file in cc
no-file (Err load.File) is file = is
no-file (Err load.NoMemory) is file = let e : ◌≡◌ {A = LoadFault} load.NoMemory load.File = err_is load.NoMemory load.File file in cc

pub refused-of-text : (own : FaultyModule) (why : LoadFault) → Refuses own why → why ≢ load.File → own.fault ≢ fault.Absent → IsOfText why
refused-of-text own load.File refuses other there = absurd (other refl)
refused-of-text own load.NoMemory refuses other there = tt
refused-of-text own (load.Module faulty) refuses other there = λ absent. there (ap (λ (f : FaultyModule). f.fault) (sym (refused-is own faulty (load.Module faulty) refuses refl)) ∙ absent)
