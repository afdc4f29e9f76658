-- The head that lines show, by the lines up to its end.
use Rattle.std.proofs.Common.{◌≡◌, ℕ, ◌+◌, ◌-◌, ◌<◌, ◌≤◌, Bool, true, false, cond, ltb, List, [], ◌∷◌, ◌++◌, length, take, drop, get_or, refl, sym, ap, ◌∙◌, arith, append_assoc, length-append, Option, Some, None}
use Rattle.std.specs.Prelude.{not}
use Rattle.std.specs.List.{AllPass, prefix_len}
use Rattle.std.proofs.lemmas.Bool.{lt-ltb, le-ltb, ltb-true}
use Rattle.std.proofs.lemmas.Bool.Decides.{nat_tests}
use Rattle.std.proofs.lemmas.List.{take_all, take_at, take-append-drop, length-take-le, drop_at, drop_all, get_or_at, get_or_append_left, take-append-le, drop-append-le, length-drop, append-nil}
use Rattle.std.proofs.lemmas.List.Elements.{All-nil, All-cons, All-head, All-tail, All-take}
use Rattle.std.proofs.lemmas.List.Folds.{prefix_len-append}
use Rattle.ob_http.specs.Lines.{ends_line, ended_lines, line_text, is_empty_line, size_with_feeds}
use Rattle.ob_http.specs.Head.{Head, head_in, head_of}
use Rattle.ob_http.specs.SoFar.{IsOpen, lines_with_feeds}
use Rattle.ob_http.proofs.LineLaws.{ended_longer, ended_whole, lines_with_feeds-append, length-lines_with_feeds, cut_of}

-- a line with some text
abbrev pub is_full_line : List ℕ → Bool
is_full_line line = not (is_empty_line line)

-- how many pass, where all of the first do, and the next doesn't
prefix_at : {X : Type 0} (p : X → Bool) (xs ys : List X) (y : X) → AllPass p xs → p y ≡ false → prefix_len p (xs ++ y ∷ ys) ≡ length xs
prefix_at p [] ys y all stops = ap (λ b. cond b (1 + prefix_len p ys) 0) stops
prefix_at p (x ∷ xs) ys y all stops =
    ap (λ b. cond b (1 + prefix_len p (xs ++ y ∷ ys)) 0) (All-head (λ z. p z ≡ true) x xs all)
    ∙ omega (arith, prefix_at p xs ys y (All-tail (λ z. p z ≡ true) x xs all) stops)

prefix_all : {X : Type 0} (p : X → Bool) (xs : List X) → AllPass p xs → prefix_len p xs ≡ length xs
prefix_all p [] all = refl
prefix_all p (x ∷ xs) all =
    ap (λ b. cond b (1 + prefix_len p xs) 0) (All-head (λ z. p z ≡ true) x xs all)
    ∙ omega (arith, prefix_all p xs (All-tail (λ z. p z ≡ true) x xs all))

-- what comes after the first that fails makes no difference
prefix_stays : {X : Type 0} (p : X → Bool) (xs ys : List X) → prefix_len p xs < length xs → prefix_len p (xs ++ ys) ≡ prefix_len p xs
prefix_stays p xs ys less = grind (arith, prefix_len-append, nat_tests)

-- the head of lines of which so many are blank and so many have text
abbrev pub head_at : List (List ℕ) → ℕ → ℕ → Head
head_at lines blank texts = record { line = line_text (get_or lines blank []); fields = texts - 1; size = size_with_feeds (take (blank + texts + 1) lines) }

-- that head, where an empty line comes after them
abbrev head_with : List (List ℕ) → ℕ → ℕ → Option Head
head_with lines blank texts = cond (ltb (blank + texts) (length lines)) (Some (head_at lines blank texts)) None

head_counted : (lines : List (List ℕ)) (blank texts : ℕ) (tail : List (List ℕ)) → prefix_len is_empty_line lines ≡ blank → drop blank lines ≡ tail
    → prefix_len is_full_line tail ≡ texts → head_in lines ≡ head_with lines blank texts
head_counted lines blank texts tail b d t =
    let first : head_in lines ≡ head_with lines blank (prefix_len is_full_line (drop blank lines)) = ap (λ n. head_with lines n (prefix_len is_full_line (drop n lines))) b in
    first ∙ ap (λ ls. head_with lines blank (prefix_len is_full_line ls)) d ∙ ap (head_with lines blank) t

-- empty lines alone have no head
pub no_head_blank : (lines : List (List ℕ)) → AllPass is_empty_line lines → head_in lines ≡ None
no_head_blank lines all =
    head_counted lines (length lines) 0 [] (prefix_all is_empty_line lines all) (drop_all (length lines) lines (omega arith)) refl
    ∙ ap (λ b. cond b (Some (head_at lines (length lines) 0)) None) (le-ltb (length lines + 0) (length lines) (omega arith))

-- nor have lines without an empty one after the request line
pub no_head_open : (blank rest : List (List ℕ)) (text : List ℕ) → AllPass is_empty_line blank → is_empty_line text ≡ false → AllPass is_full_line rest → head_in (blank ++ text ∷ rest) ≡ None
no_head_open blank rest text all full others =
    let lines = blank ++ text ∷ rest in
    let texts = text ∷ rest in
    let whole : prefix_len is_full_line texts ≡ length texts = prefix_all is_full_line texts (All-cons (λ l. is_full_line l ≡ true) text rest (ap not full) others) in
    head_counted lines (length blank) (length texts) texts (prefix_at is_empty_line blank rest text all full) (drop_at blank texts (length blank) refl) whole
    ∙ ap (λ b. cond b (Some (head_at lines (length blank) (length texts))) None) (le-ltb (length blank + length texts) (length lines) (omega (arith, length-append blank texts)))

-- an empty line after them ends a head
pub head_found : (blank fields more : List (List ℕ)) (text last : List ℕ) → AllPass is_empty_line blank → is_empty_line text ≡ false → AllPass is_full_line fields → is_empty_line last ≡ true
    → head_in ((blank ++ text ∷ fields) ++ last ∷ more) ≡ Some (record { line = line_text text; fields = length fields; size = size_with_feeds ((blank ++ text ∷ fields) ++ last ∷ []) })
head_found blank fields more text last all full others end =
    let lines = (blank ++ text ∷ fields) ++ last ∷ more in
    let texts = text ∷ fields in
    let before = blank ++ texts in
    let assoc : lines ≡ blank ++ (texts ++ last ∷ more) = append_assoc blank texts (last ∷ more) in
    let n = length blank in
    let m = length texts in
    let b : prefix_len is_empty_line lines ≡ n = ap (prefix_len is_empty_line) assoc ∙ prefix_at is_empty_line blank (fields ++ last ∷ more) text all full in
    let d : drop n lines ≡ texts ++ last ∷ more = ap (drop n) assoc ∙ drop_at blank (texts ++ last ∷ more) n refl in
    let t : prefix_len is_full_line (texts ++ last ∷ more) ≡ m = prefix_at is_full_line texts more last (All-cons (λ l. is_full_line l ≡ true) text fields (ap not full) others) (ap not end) in
    let count : length before ≡ n + m = length-append blank texts in
    let within : n + m < length lines = omega (arith, count, length-append before (last ∷ more)) in
    let line : get_or lines n [] ≡ text = ap (λ ls. get_or ls n []) assoc ∙ get_or_at blank text (fields ++ last ∷ more) [] n refl in
    let lines_again : lines ≡ (before ++ last ∷ []) ++ more = sym (append_assoc before (last ∷ []) more) in
    let front : take (n + m + 1) lines ≡ before ++ last ∷ [] = ap (take (n + m + 1)) lines_again ∙ take_at (before ++ last ∷ []) more (n + m + 1) (omega (arith, count, length-append before (last ∷ []))) in
    head_counted lines n m (texts ++ last ∷ more) b d t
    ∙ ap (λ c. cond c (Some (head_at lines n m)) None) (lt-ltb (n + m) (length lines) within)
    ∙ ap Some (same_head _ _ _ _ _ _ (ap line_text line) (omega arith) (ap size_with_feeds front))
  where
    same_head : (line line' : List ℕ) (fields fields' size size' : ℕ) → line ≡ line' → fields ≡ fields' → size ≡ size'
        → let h : Head = record { line = line; fields = fields; size = size } in let h' : Head = record { line = line'; fields = fields'; size = size' } in h ≡ h'
    same_head line line' fields fields' size size' l f s = cc

-- where there is a head, a line follows those of its text
texts_end : (lines : List (List ℕ)) (blank texts : ℕ) (head : Head) → head_with lines blank texts ≡ Some head → blank + texts < length lines
texts_end lines blank texts head was = below (ltb (blank + texts) (length lines)) refl was
  where
    below : (c : Bool) → ltb (blank + texts) (length lines) ≡ c → cond c (Some (head_at lines blank texts)) None ≡ Some head → blank + texts < length lines
    below true e h = ltb-true (blank + texts) (length lines) e
    below false e h = absurd (cc)

head_stays : (lines more : List (List ℕ)) (blank texts : ℕ) (head : Head) → prefix_len is_empty_line lines ≡ blank → prefix_len is_full_line (drop blank lines) ≡ texts
    → head_in lines ≡ Some head → head_in (lines ++ more) ≡ Some head
head_stays lines more blank texts head b t is =
    let was : head_with lines blank texts ≡ Some head = sym (head_counted lines blank texts (drop blank lines) b refl t) ∙ is in
    let within : blank + texts < length lines = texts_end lines blank texts head was in
    let b' : prefix_len is_empty_line (lines ++ more) ≡ blank = prefix_stays is_empty_line lines more (omega arith) ∙ b in
    let d' : drop blank (lines ++ more) ≡ drop blank lines ++ more = drop-append-le blank lines more (omega arith) in
    let t' : prefix_len is_full_line (drop blank lines ++ more) ≡ texts = prefix_stays is_full_line (drop blank lines) more (omega (arith, length-drop blank lines)) ∙ t in
    let same : head_at (lines ++ more) blank texts ≡ head_at lines blank texts =
    ap (λ l. record { line = line_text l; fields = texts - 1; size = size_with_feeds (take (blank + texts + 1) (lines ++ more)) }) (get_or_append_left lines more [] blank (omega arith))
    ∙ ap (λ ls. record { line = line_text (get_or lines blank []); fields = texts - 1; size = size_with_feeds ls }) (take-append-le (blank + texts + 1) lines more (omega arith)) in
    head_counted (lines ++ more) blank texts (drop blank lines ++ more) b' d' t'
    ∙ ap (λ c. cond c (Some (head_at (lines ++ more) blank texts)) None) (lt-ltb (blank + texts) (length (lines ++ more)) (omega (arith, length-append lines more)))
    ∙ ap Some same
    ∙ ap (λ c. cond c (Some (head_at lines blank texts)) None) (sym (lt-ltb (blank + texts) (length lines) within)) ∙ was

-- more bytes leave the head
pub head_of_longer : (bytes more : List ℕ) (head : Head) → head_of bytes ≡ Some head → head_of (bytes ++ more) ≡ Some head
head_of_longer bytes more head is =
    let longer = ended_longer bytes more in
    ap head_in longer.1 ∙ head_stays (ended_lines bytes) longer.0 _ _ head refl refl is

-- as many pass at a front that reaches beyond the first that fails
prefix_of_front : {X : Type 0} (p : X → Bool) (xs ys : List X) → prefix_len p (xs ++ ys) < length xs → prefix_len p xs ≡ prefix_len p (xs ++ ys)
prefix_of_front p xs ys less = grind (arith, prefix_len-append, nat_tests)

-- the first lines are a head's, and have it alone
record HeadAlone (lines : List (List ℕ)) (head : Head) : Type 0 where
  count : ℕ
  some : 0 < count
  within : count ≤ length lines
  alone : head_in (take count lines) ≡ Some head
  size : head.size ≡ size_with_feeds (take count lines)

head_alone : (lines : List (List ℕ)) (head : Head) → head_in lines ≡ Some head → HeadAlone lines head
head_alone lines head is =
    let blank = prefix_len is_empty_line lines in
    let texts = prefix_len is_full_line (drop blank lines) in
    let k = blank + texts + 1 in
    let front = take k lines in
    let later = drop k lines in
    let within : blank + texts < length lines = texts_end lines blank texts head (sym (head_counted lines blank texts (drop blank lines) refl refl refl) ∙ is) in
    let count : length front ≡ k = length-take-le k lines (omega arith) in
    let split : front ++ later ≡ lines = take-append-drop k lines in
    let b : prefix_len is_empty_line front ≡ blank = prefix_of_front is_empty_line front later (omega (arith, count, ap (prefix_len is_empty_line) split)) ∙ ap (prefix_len is_empty_line) split in
    let d : drop blank front ++ later ≡ drop blank lines = sym (drop-append-le blank front later (omega (arith, count))) ∙ ap (drop blank) split in
    let t : prefix_len is_full_line (drop blank front) ≡ texts = prefix_of_front is_full_line (drop blank front) later (omega (arith, count, length-drop blank front, ap (prefix_len is_full_line) d)) ∙ ap (prefix_len is_full_line) d in
    let found : head_in front ≡ Some (head_at front blank texts) =
    head_counted front blank texts (drop blank front) b refl t ∙ ap (λ c. cond c (Some (head_at front blank texts)) None) (lt-ltb (blank + texts) (length front) (omega (arith, count))) in
    let again : Some (head_at front blank texts) ≡ Some head = sym (head_stays front later blank texts (head_at front blank texts) b t found) ∙ ap head_in split ∙ is in
    let same : head_at front blank texts ≡ head = cc in record {
      count = k;
      some = omega arith;
      within = omega arith;
      alone = found ∙ again;
      size = sym (ap (λ (h : Head). h.size) same) ∙ ap size_with_feeds (take_all k front (omega (arith, count)));
    }

-- a line and its line feed take a byte at least
some_bytes : (lines : List (List ℕ)) → 0 < length lines → 0 < size_with_feeds lines
some_bytes [] some = absurd (omega arith)
some_bytes (line ∷ lines) some = omega (arith, length-lines_with_feeds (line ∷ lines), length-append line (10 ∷ lines_with_feeds lines))

-- a head has a byte and ends within its bytes, and the bytes up to there have it alone
pub record EndsWithin (bytes : List ℕ) (head : Head) : Type 0 where
  pub some : 0 < head.size
  pub within : head.size ≤ length bytes
  pub alone : head_of (take head.size bytes) ≡ Some head

pub ends_within : (bytes : List ℕ) (head : Head) → head_of bytes ≡ Some head → EndsWithin bytes head
ends_within bytes head is =
    let cut = cut_of bytes in
    let ended : ended_lines bytes ≡ cut.lines = ap ended_lines cut.bytes_are ∙ ended_whole cut.lines cut.rest cut.lines_open cut.rest_open in
    let h = head_alone cut.lines head (ap head_in (sym ended) ∙ is) in
    let front = take h.count cut.lines in
    let later = drop h.count cut.lines in
    let first = lines_with_feeds front in
    let last = lines_with_feeds later ++ cut.rest in
    let joined : lines_with_feeds cut.lines ≡ first ++ lines_with_feeds later = ap lines_with_feeds (sym (take-append-drop h.count cut.lines)) ∙ lines_with_feeds-append front later in
    let whole : bytes ≡ first ++ last = cut.bytes_are ∙ ap (λ bs. bs ++ cut.rest) joined ∙ append_assoc first (lines_with_feeds later) cut.rest in
    let size : length first ≡ head.size = length-lines_with_feeds front ∙ sym h.size in
    let part : take head.size bytes ≡ first = ap (take head.size) whole ∙ take_at first last head.size size in
    let lines : ended_lines (take head.size bytes) ≡ front =
    ap ended_lines (part ∙ sym (append-nil first)) ∙ ended_whole front [] (All-take IsOpen h.count cut.lines cut.lines_open) (All-nil (λ b. ends_line b ≡ false)) in record {
      some = omega (arith, h.some, h.size, some_bytes front (omega (arith, h.some, length-take-le h.count cut.lines h.within)));
      within = omega (arith, ap length whole, length-append first last, size);
      alone = ap head_in lines ∙ h.alone;
    }
