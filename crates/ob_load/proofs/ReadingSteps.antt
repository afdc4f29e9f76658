-- How far reading is, step by step.
use Rattle.std.proofs.Common.{◌≡◌, ◌<◌, ◌+◌, ℕ, false, List, [], ◌∷◌, ◌++◌, length, length-append, Option, None, Some, Result, Ok, Err, refl, ap, sym, ◌∙◌, arith}
use Rattle.std.specs.Prelude.{All}
use Rattle.std.proofs.lemmas.List.Elements.{All-nil, All-push}
use Rattle.ob_load.specs.declared.fault.FaultyModule.{FaultyModule}
use Rattle.ob_load.specs.declared.fault.ModuleFault.TheVariants as fault
use Rattle.ob_module.specs.Modules.{Module, has_module, wanted}
use Rattle.ob_module.specs.Meaning.{depends_of}
use Rattle.ob_load.specs.Reading.{ReadsTo, next_module, whole}
use Rattle.ob_load.specs.Rooms.{AreHeld, AreReadWhole, Passes}
use Rattle.ob_load.specs.Texts.{AgreesWith, FileTexts, text_in}
use Rattle.ob_load.proofs.HeldTexts.{IsOf, all-before, all-last, joined-texts, some-texts}
use Rattle.ob_load.proofs.Readings.{ReadsTo-ended, ReadsTo-fails, ReadsTo-read, next-below, next-past}
use Rattle.ob_load.proofs.Wholes.{AreHeld-first, held-read, whole-ended}

module _ (told : Option FileTexts) (folder : List ℕ) (names : List (List ℕ)) where
  -- reading comes to this, for texts that the files may hold
  abbrev pub Comes : Result (List Module) FaultyModule → Type 0
  Comes outcome = (texts : FileTexts) × AgreesWith told texts × ReadsTo (text_in texts folder) [] (wanted names) outcome

  -- so many modules were read, each from its text, and what reading comes to from here is what it comes to from the start
  pub record IsReading (modules : List Module) (coming : List (List ℕ)) (count : ℕ) : Type 0 where
    pub size : length modules ≡ count
    pub held : AreHeld modules coming (wanted names)
    pub of_texts : (texts : FileTexts) × AgreesWith told texts × All (IsOf folder texts) modules
    pub reads : (texts : FileTexts) → All (IsOf folder texts) modules → (outcome : Result (List Module) FaultyModule) → ReadsTo (text_in texts folder) modules coming outcome
        → ReadsTo (text_in texts folder) [] (wanted names) outcome

  first : IsReading [] (wanted names) 0
  first = record {
    size = refl;
    held = AreHeld-first (wanted names);
    of_texts = let some = some-texts told in (some.0, some.1, All-nil (IsOf folder some.0));
    reads = λ texts all outcome reads. reads;
  }

  pub IsReading-first : (modules : List Module) (coming : List (List ℕ)) → modules ≡ [] → coming ≡ wanted names → IsReading modules coming 0
  IsReading-first modules coming none all = rw (none, all) first

  module _ (modules : List Module) (coming rest : List (List ℕ)) (count : ℕ) (next : Option (List ℕ)) (is : IsReading modules coming count) (passed : Passes modules coming next rest) where
    -- no name is left
    pub reading-whole : next ≡ None → AreReadWhole modules (wanted names)
    reading-whole none = whole-ended modules coming (wanted names) rest next is.held passed none

    pub reading-ended : next ≡ None → Comes (Ok modules)
    reading-ended none = let (texts, agree, all) = is.of_texts in
        (texts, agree, is.reads texts all (Ok modules) (ReadsTo-ended (text_in texts folder) modules coming rest next passed none))

    module _ (name : List ℕ) (some : next ≡ Some name) (unread : has_module modules name ≡ false) where
      -- the next one is refused for these texts
      refused_by : (why : FaultyModule) (texts : FileTexts) → AgreesWith told texts → All (IsOf folder texts) modules → next_module (length modules) name (text_in texts folder name) ≡ Err why → Comes (Err why)
      refused_by why texts agree all refused = (texts, agree, is.reads texts all (Err why) (ReadsTo-fails (text_in texts folder) modules coming rest next passed name some unread why refused))

      -- the limit is reached
      pub reading-full : count ≡ 64 → Comes (Err (whole name fault.Limit))
      reading-full full = let (texts, agree, all) = is.of_texts in
          refused_by (whole name fault.Limit) texts agree all (next-past (length modules) name (text_in texts folder name) (is.size ∙ full))

      module _ (low : count < 64) where
        below : length modules < 64
        below = let e = is.size in omega arith

        -- the next module is refused
        pub reading-refused : (why : FaultyModule) → (texts : FileTexts) × AgreesWith told texts × (next_module 0 name (text_in texts folder name) ≡ Err why) → Comes (Err why)
        reading-refused why own = let (texts, agree, all, refused) = joined-texts folder told modules name (Err why) unread is.of_texts own in
            refused_by why texts agree all (next-below (length modules) name (text_in texts folder name) below ∙ refused)

        -- it is read
        read_on : (m : Module) → m.name ≡ name → (texts : FileTexts) × AgreesWith told texts × (next_module 0 name (text_in texts folder name) ≡ Ok m)
            → IsReading (modules ++ m ∷ []) (depends_of m.document ++ rest) (count + 1)
        read_on m named own = record {
          size = let e = is.size in let long = length-append modules (m ∷ []) in omega arith;
          held = held-read modules coming (wanted names) rest next m is.held passed (some ∙ ap Some (sym named));
          of_texts = let (texts, agree, all, read) = joined-texts folder told modules name (Ok m) unread is.of_texts own in
              (texts, agree, All-push (IsOf folder texts) modules m all (as_named texts m.name name named read));
          reads = λ texts all outcome further. is.reads texts (all-before folder texts modules m all) outcome
              (ReadsTo-read (text_in texts folder) modules coming rest next passed name some unread m below (as_named texts name m.name (sym named) (all-last folder texts modules m all)) outcome further);
        }
          where
            as_named : (texts : FileTexts) (a b : List ℕ) → a ≡ b → next_module 0 b (text_in texts folder b) ≡ Ok m → next_module 0 a (text_in texts folder a) ≡ Ok m
            as_named texts a b same read = ap (λ (n : List ℕ). next_module 0 n (text_in texts folder n)) same ∙ read

        pub IsReading-more : (m : Module) (now : List Module) (left : List (List ℕ)) → m.name ≡ name
            → (texts : FileTexts) × AgreesWith told texts × (next_module 0 name (text_in texts folder name) ≡ Ok m) → now ≡ modules ++ m ∷ []
            → left ≡ depends_of m.document ++ rest → IsReading now left (count + 1)
        IsReading-more m now left named own pushed put = rw (pushed, put) (read_on m named own)
