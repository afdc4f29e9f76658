-- The number that texts have in common, by the digits of one after another.
use Rattle.std.proofs.Common.{◌≡◌, ◌≢◌, ℕ, ◌&&◌, nat_lt, Bool, true, false, not, cond, List, [], ◌∷◌, length, Option, Some, None, option_map, Bor, Result, Ok, Err, refl, sym, ap, ◌∙◌, subst}
use Rattle.std.specs.Bool.{◌==◌, IsTrue}
use Rattle.std.specs.Char.{is_ascii_digit}
use Rattle.std.specs.List.{All, list_all, prefix_len}
use Rattle.std.specs.Str.{bytes_eq}
use Rattle.std.specs.Str.Parse.{digits_value}
use Rattle.std.proofs.lemmas.List.Elements.{All-drop}
use Rattle.std.proofs.lemmas.List.Sums.{AllPass-from_list_all}
use Rattle.std.proofs.lemmas.Bool.{not-true}
use Rattle.std.proofs.lemmas.Slice.Eq.{bytes_eq-Decides}
use Rattle.ob_http.specs.Message.{is_decimal, without_zeros, same_number}
use Rattle.ob_http.specs.declared.fields.LengthFault.{LengthFault}
use Rattle.ob_http.specs.declared.fields.LengthFault.TheVariants.{Absent, Unequal}
use Rattle.ob_http.proofs.Decimals.{is_zero, digits_tested, same_numbers, value-without_zeros, without_zeros-twice}

-- digits agree with those found before, if any
abbrev pub agrees : Option (List ℕ) → List ℕ → Bool
agrees None digits = true
agrees (Some found) digits = bytes_eq found digits

-- the digits found, or none
abbrev pub found_digits : Option (List ℕ) → Result (List ℕ) LengthFault
found_digits None = Err Absent
found_digits (Some found) = Ok found

-- the digits of further texts, after those found before
abbrev pub common_digits : Option (List ℕ) → List (List ℕ) → Result (List ℕ) LengthFault
common_digits found [] = found_digits found
common_digits found (text ∷ texts) = cond (is_decimal text && agrees found (without_zeros text)) (common_digits (Some (without_zeros text)) texts) (Err Unequal)

-- what the digits of one text say of it
pub not_decimal : (digits : Option (Bor (List ℕ))) (text : List ℕ) → option_map (λ d. d.now) digits ≡ cond (is_decimal text) (Some (without_zeros text)) None
    → digits ≡ None → is_decimal text ≡ false
not_decimal digits text is none = at (is_decimal text) (ap (option_map (λ d. d.now)) (sym none) ∙ is)
  where
    at : (t : Bool) → None ≡ cond t (Some (without_zeros text)) None → t ≡ false
    at true e = absurd (cc)
    at false e = refl

pub is_decimal_of : (found : Option (Bor (List ℕ))) (digits : Bor (List ℕ)) (text : List ℕ) → option_map (λ d. d.now) found ≡ cond (is_decimal text) (Some (without_zeros text)) None
    → found ≡ Some digits → (is_decimal text ≡ true) × (without_zeros text ≡ digits.now)
is_decimal_of found digits text is some = at (is_decimal text) (ap (option_map (λ d. d.now)) (sym some) ∙ is)
  where
    at : (t : Bool) → Some digits.now ≡ cond t (Some (without_zeros text)) None → (t ≡ true) × (without_zeros text ≡ digits.now)
    at true e = (refl, cc)
    at false e = absurd (cc)

-- digits other than those found before
pub told_apart : (found : Option (Bor (List ℕ))) (earlier : Bor (List ℕ)) (taken : Option (Bor (List ℕ))) (digits : Bor (List ℕ)) (text : List ℕ)
    → option_map (λ d. d.now) taken ≡ cond (is_decimal text) (Some (without_zeros text)) None → found ≡ Some earlier → taken ≡ Some digits
    → not (bytes_eq earlier.now digits.now) ≡ true → agrees (option_map (λ d. d.now) found) (without_zeros text) ≡ false
told_apart found earlier taken digits text is before some others =
    ap (λ f. agrees (option_map (λ d. d.now) f) (without_zeros text)) before
    ∙ ap (bytes_eq earlier.now) (is_decimal_of taken digits text is some).1 ∙ not-true (bytes_eq earlier.now digits.now) others

-- a text that is no decimal, or whose digits are others than those before
pub refused : (found : Option (List ℕ)) (text : List ℕ) (later : List (List ℕ)) → is_decimal text ≡ false → common_digits found (text ∷ later) ≡ Err Unequal
refused found text later e = ap (λ t. cond (t && agrees found (without_zeros text)) (common_digits (Some (without_zeros text)) later) (Err Unequal)) e

pub disagrees : (found : Option (List ℕ)) (text : List ℕ) (later : List (List ℕ)) → agrees found (without_zeros text) ≡ false → common_digits found (text ∷ later) ≡ Err Unequal
disagrees found text later e = at (is_decimal text) (agrees found (without_zeros text)) e
  where
    at : (d a : Bool) → a ≡ false → cond (d && a) (common_digits (Some (without_zeros text)) later) (Err Unequal) ≡ Err Unequal
    at true a e = ap (λ t. cond t (common_digits (Some (without_zeros text)) later) (Err Unequal)) e
    at false a e = refl

decimal_digits : (text : List ℕ) → is_decimal text ≡ true → All (λ x. IsTrue (is_ascii_digit x)) text
decimal_digits text e = AllPass-from_list_all is_ascii_digit text (second (nat_lt 0 (length text)) (list_all is_ascii_digit text) e)
  where
    second : (a b : Bool) → (a && b) ≡ true → b ≡ true
    second true b e = e
    second false b e = cc

both : (s a b : Bool) {R : Type 0} (x y : R) → cond s (cond (a && b) x y) y ≡ cond (a && (s && b)) x y
both true a b x y = refl
both false true b x y = refl
both false false b x y = refl

-- the same number as the first text
abbrev same_as : List ℕ → List ℕ → Bool
same_as text other = digits_value 10 other == digits_value 10 text

-- the digits of a first text, where all others write the same number
abbrev rest_of : List ℕ → List (List ℕ) → Result (List ℕ) LengthFault
rest_of text texts = cond (list_all is_decimal texts && list_all (same_as text) texts) (Ok (without_zeros text)) (Err Unequal)

further : (text : List ℕ) → is_decimal text ≡ true → (texts : List (List ℕ))
    → common_digits (Some (without_zeros text)) texts ≡ cond (list_all is_decimal texts && list_all (same_as text) texts) (Ok (without_zeros text)) (Err Unequal)
further text e [] = refl
further text e (other ∷ texts) = at (further text e texts) (is_decimal other) refl
  where
    agreed : common_digits (Some (without_zeros text)) texts ≡ rest_of text texts → (b : Bool) → bytes_eq (without_zeros text) (without_zeros other) ≡ b
        → cond b (common_digits (Some (without_zeros other)) texts) (Err Unequal) ≡ cond b (rest_of text texts) (Err Unequal)
    agreed rest true same = ap (λ d. common_digits (Some d) texts) (sym ((bytes_eq-Decides (without_zeros text) (without_zeros other)).0 same)) ∙ rest
    agreed rest false same = refl

    at : common_digits (Some (without_zeros text)) texts ≡ rest_of text texts → (b : Bool) → is_decimal other ≡ b
        → cond (is_decimal other && bytes_eq (without_zeros text) (without_zeros other)) (common_digits (Some (without_zeros other)) texts) (Err Unequal)
        ≡ cond ((is_decimal other && list_all is_decimal texts) && (same_as text other && list_all (same_as text) texts)) (Ok (without_zeros text)) (Err Unequal)
    at rest true is =
        ap (λ b. cond (b && bytes_eq (without_zeros text) (without_zeros other)) (common_digits (Some (without_zeros other)) texts) (Err Unequal)) is
        ∙ agreed rest (bytes_eq (without_zeros text) (without_zeros other)) refl
        ∙ ap (λ b. cond b (rest_of text texts) (Err Unequal)) (same_numbers text other (digits_tested text (decimal_digits text e)) (digits_tested other (decimal_digits other is)))
        ∙ both (same_as text other) (list_all is_decimal texts) (list_all (same_as text) texts) (Ok (without_zeros text)) (Err Unequal)
        ∙ ap (λ b. cond ((b && list_all is_decimal texts) && (same_as text other && list_all (same_as text) texts)) (Ok (without_zeros text)) (Err Unequal)) (sym is)
    at rest false is =
        ap (λ b. cond (b && bytes_eq (without_zeros text) (without_zeros other)) (common_digits (Some (without_zeros other)) texts) (Err Unequal)) is
        ∙ ap (λ b. cond ((b && list_all is_decimal texts) && (same_as text other && list_all (same_as text) texts)) (Ok (without_zeros text)) (Err Unequal)) (sym is)

-- what the digits in common say of the number in common
pub record Tells (texts : List (List ℕ)) (found : List ℕ) : Type 0 where
  pub number : same_number texts ≡ Some (digits_value 10 found)
  pub digits : All (λ x. IsTrue (is_ascii_digit x)) found
  pub no_zero : without_zeros found ≡ found

-- all that one text and others say, in one test
whole : (text : List ℕ) (texts : List (List ℕ)) → common_digits None (text ∷ texts)
    ≡ cond (list_all is_decimal (text ∷ texts) && list_all (same_as text) texts) (Ok (without_zeros text)) (Err Unequal)
whole text texts = at (is_decimal text) refl
  where
    at : (b : Bool) → is_decimal text ≡ b → common_digits None (text ∷ texts)
        ≡ cond (list_all is_decimal (text ∷ texts) && list_all (same_as text) texts) (Ok (without_zeros text)) (Err Unequal)
    at true e = ap (λ b. cond (b && true) (common_digits (Some (without_zeros text)) texts) (Err Unequal)) e ∙ further text e texts
        ∙ ap (λ b. cond ((b && list_all is_decimal texts) && list_all (same_as text) texts) (Ok (without_zeros text)) (Err Unequal)) (sym e)
    at false e = ap (λ b. cond (b && true) (common_digits (Some (without_zeros text)) texts) (Err Unequal)) e
        ∙ ap (λ b. cond ((b && list_all is_decimal texts) && list_all (same_as text) texts) (Ok (without_zeros text)) (Err Unequal)) (sym e)

-- the texts' number by the same test
number_by : (text : List ℕ) (texts : List (List ℕ)) (b : Bool) → (list_all is_decimal (text ∷ texts) && list_all (same_as text) texts) ≡ b
    → same_number (text ∷ texts) ≡ cond b (Some (digits_value 10 text)) None
number_by text texts b e = ap (λ t. cond t (Some (digits_value 10 text)) None) e

digits_by : (text : List ℕ) (texts : List (List ℕ)) (b : Bool) → (list_all is_decimal (text ∷ texts) && list_all (same_as text) texts) ≡ b
    → common_digits None (text ∷ texts) ≡ cond b (Ok (without_zeros text)) (Err Unequal)
digits_by text texts b e = whole text texts ∙ ap (λ t. cond t (Ok (without_zeros text)) (Err Unequal)) e

first_decimal : (text : List ℕ) (a b : Bool) → ((is_decimal text && a) && b) ≡ true → is_decimal text ≡ true
first_decimal text a b e = at (is_decimal text) e
  where
    at : (d : Bool) → ((d && a) && b) ≡ true → d ≡ true
    at true e = refl
    at false e = e

digits_or : List ℕ → Result (List ℕ) LengthFault
digits_or text = Ok (without_zeros text)

no_digits : Result (List ℕ) LengthFault
no_digits = Err Unequal

told : (text : List ℕ) (texts : List (List ℕ)) (found : List ℕ) (b : Bool) → (list_all is_decimal (text ∷ texts) && list_all (same_as text) texts) ≡ b
    → common_digits None (text ∷ texts) ≡ Ok found → Tells (text ∷ texts) found
unfolding digits_or no_digits
told text texts found true e is =
    let known : digits_or text ≡ Ok found = sym (digits_by text texts true e) ∙ is in
    let same : without_zeros text ≡ found = cc in
    subst (Tells (text ∷ texts)) same (record {
      number = number_by text texts true e ∙ ap Some (sym (value-without_zeros text));
      digits = All-drop (λ x. IsTrue (is_ascii_digit x)) (prefix_len is_zero text) text (decimal_digits text (first_decimal text (list_all is_decimal texts) (list_all (same_as text) texts) e));
      no_zero = without_zeros-twice text;
    })
told text texts found false e is = let known : no_digits ≡ Ok found = sym (digits_by text texts false e) ∙ is in absurd (cc)

pub tells : (texts : List (List ℕ)) (found : List ℕ) → common_digits None texts ≡ Ok found → Tells texts found
tells [] found is = absurd (cc)
tells (text ∷ texts) found is = told text texts found (list_all is_decimal (text ∷ texts) && list_all (same_as text) texts) refl is

pub tells_absent : (texts : List (List ℕ)) → common_digits None texts ≡ Err Absent → texts ≡ []
tells_absent [] is = refl
tells_absent (text ∷ texts) is = at (list_all is_decimal (text ∷ texts) && list_all (same_as text) texts) (sym (whole text texts) ∙ is)
  where
    at : (b : Bool) → cond b (Ok (without_zeros text)) (Err Unequal) ≡ Err Absent → text ∷ texts ≡ []
    at true e = absurd (cc)
    at false e = absurd (cc)

pub tells_unequal : (texts : List (List ℕ)) → common_digits None texts ≡ Err Unequal → (texts ≢ []) × (same_number texts ≡ None)
tells_unequal [] is = absurd (cc)
tells_unequal (text ∷ texts) is = ((λ e. cc), at (list_all is_decimal (text ∷ texts) && list_all (same_as text) texts) (sym (whole text texts) ∙ is))
  where
    at : (b : Bool) → cond b (Ok (without_zeros text)) (Err Unequal) ≡ Err Unequal → cond b (Some (digits_value 10 text)) None ≡ None
    at true e = absurd (cc)
    at false e = refl
