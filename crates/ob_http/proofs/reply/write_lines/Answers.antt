-- The texts one after another are the reply.
use Rattle.std.proofs.Common.{◌≡◌, ℕ, Bool, List, [], ◌++◌, length, decimal, codes, subst, append_assoc}
use Rattle.std.proofs.lemmas.List.{append-nil}
use Rattle.std.proofs.lemmas.Result.{on_ok_weaker, on_err_weaker}
use Rattle.ob_http.specs.Reply.{phrase_of, allow_line, close_line, reply_head}
use Rattle.ob_http.specs.Written.{Wrote, WrotePart}
use Rattle.ob_http.proofs.reply.write_lines.Goals as goal

-- eleven texts, whatever they are: the fifth is two ends of lines with what stands behind each
texts_joined : (version status space phrase type_line length_name size end allow close body : List ℕ)
    → version ++ (status ++ (space ++ (phrase ++ ((end ++ (type_line ++ (end ++ length_name))) ++ (size ++ (end ++ (allow ++ (close ++ (end ++ (body ++ []))))))))))
    ≡ (((version ++ status ++ space ++ phrase) ++ end) ++ ((type_line ++ end) ++ ((length_name ++ size) ++ end)) ++ (allow ++ close ++ end)) ++ body
texts_joined version status space phrase type_line length_name size end allow close body = simp (append_assoc, append-nil)

-- those of a reply
joined : (status size : ℕ) (keep : Bool) (body : List ℕ)
    → codes "HTTP/1.1 " ++ (decimal status ++ (codes " " ++ (phrase_of status
    ++ (codes "\r\nContent-Type: application/json\r\nContent-Length: " ++ (decimal size ++ (codes "\r\n" ++ (allow_line status ++ (close_line keep ++ (codes "\r\n" ++ (body ++ []))))))))))
    ≡ reply_head status size keep ++ body
joined status size keep body =
    texts_joined (codes "HTTP/1.1 ") (decimal status) (codes " ") (phrase_of status) (codes "Content-Type: application/json") (codes "Content-Length: ") (decimal size) (codes "\r\n") (allow_line status) (close_line keep) body

pub returns-clause-ok : goal.returns-clause-ok
returns-clause-ok g c =
    on_ok_weaker c.write_texts.result (λ written. subst (λ (b : List ℕ). Wrote (g.D.Door.written c.args.door.now) (g.D.Door.written c.write_texts.new.door) b)
    (joined c.args.status (length c.args.body.now) c.args.keep c.args.body.now)
    (rw (
      c.requires.status_text,
      c.requires.length_text,
      c.as_bytes-phrase.ensures.value,
      c.phrase.ensures,
      c.as_bytes-allow.ensures.value,
      c.allow_line.ensures,
      c.as_bytes-close.ensures.value,
      c.close_line.ensures,
    ) at written)) c.write_texts.ensures.ok

pub returns-clause-err : goal.returns-clause-err
returns-clause-err g c =
    on_err_weaker c.write_texts.result (λ written. subst (λ (b : List ℕ). WrotePart (g.D.Door.written c.args.door.now) (g.D.Door.written c.write_texts.new.door) b)
    (joined c.args.status (length c.args.body.now) c.args.keep c.args.body.now)
    (rw (
      c.requires.status_text,
      c.requires.length_text,
      c.as_bytes-phrase.ensures.value,
      c.phrase.ensures,
      c.as_bytes-allow.ensures.value,
      c.allow_line.ensures,
      c.as_bytes-close.ensures.value,
      c.close_line.ensures,
    ) at written)) c.write_texts.ensures.err
