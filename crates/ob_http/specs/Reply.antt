-- The bytes of replies (RFC 9112, section 4).
use Rattle.std.specs.Prelude.{◌≡◌, ℕ, ◌==◌, ◌⊎◌, Bool, List, [], ◌∷◌, ◌++◌, length, codes, decimal, unwrap_or, if◌then◌else◌}
use Rattle.http.specs.StatusCode.{reason_phrase}

-- a line of a reply's head
abbrev pub reply_line : List ℕ → List ℕ
reply_line text = text ++ 13 ∷ 10 ∷ []

-- the statuses of faults
abbrev pub IsFaultStatus : ℕ → Type 0
IsFaultStatus status = (status ≡ 400) ⊎ (status ≡ 404) ⊎ (status ≡ 405) ⊎ (status ≡ 411) ⊎ (status ≡ 413) ⊎ (status ≡ 431) ⊎ (status ≡ 505)

-- the statuses that replies have
abbrev pub IsReplyStatus : ℕ → Type 0
IsReplyStatus status = (status ≡ 200) ⊎ IsFaultStatus status

-- the phrase of a status, by the kit's crate `http`
unfoldable pub phrase_of : ℕ → List ℕ
phrase_of status = unwrap_or (reason_phrase status) []

-- the first line of a reply
abbrev pub status_line : ℕ → List ℕ
status_line status = reply_line (codes "HTTP/1.1 " ++ decimal status ++ codes " " ++ phrase_of status)

-- the type and the length of the body
abbrev pub length_lines : ℕ → List ℕ
length_lines size = reply_line (codes "Content-Type: application/json") ++ reply_line (codes "Content-Length: " ++ decimal size)

-- the method that is served, where another was asked for
abbrev pub allow_line : ℕ → List ℕ
allow_line status = if status == 405 then reply_line (codes "Allow: POST") else []

-- the end of the connection, where it doesn't stay
abbrev pub close_line : Bool → List ℕ
close_line keep = if keep then [] else reply_line (codes "Connection: close")

-- these two, and the empty line that ends the head
abbrev pub further_lines : ℕ → Bool → List ℕ
further_lines status keep = allow_line status ++ close_line keep ++ reply_line []

-- the head of a reply
abbrev pub reply_head : (status size : ℕ) → Bool → List ℕ
reply_head status size keep = status_line status ++ length_lines size ++ further_lines status keep

-- a reply: its head and its body
abbrev pub reply_bytes : (status : ℕ) (body : List ℕ) → Bool → List ℕ
reply_bytes status body keep = reply_head status (length body) keep ++ body

-- the interim line, which says that the body may come
abbrev pub interim_bytes : List ℕ
interim_bytes = reply_line (codes "HTTP/1.1 100 Continue") ++ reply_line []
