-- Lemmas on the front of a head.
use Rattle.std.proofs.Common.{inl, inr, refl, ap, ℕ, zero, suc, ◌+◌, ◌*◌, ◌<◌, ◌≤◌, List, [], ◌∷◌, length, take, arith, length-append}
use Rattle.std.proofs.lemmas.List.Elements.{All-head, All-tail}
use Rattle.std.specs.List.{All, flat_map}
use Rattle.httparse.specs.Grammar.{Field, IsField, LineEnd, RequestHead, crlf, lf, print_end, print_field, print_request}
use Rattle.httparse.specs.Spans.{RequestExceeds}
use Rattle.wb_streams.specs.Heads.{IsHeadFront, IsUnfinished, head_limit}

-- the bytes so far, which are no head yet
pub head_front : (room : List ℕ) (filled : ℕ) → length (take filled room) < head_limit → (0 < filled → IsUnfinished (take filled room))
    → IsHeadFront (take filled room)
head_front room zero short more = (short, inl refl)
head_front room (suc n) short more = (short, inr (more (omega arith)))

-- ---- how many fields a head can have

end-takes : (end : LineEnd) → 1 ≤ length (print_end end)
end-takes crlf = omega arith
end-takes lf = omega arith

-- a field takes three bytes at least: its name, a colon and the end of its line
field-takes : (field : Field) → IsField field → 3 ≤ length (print_field field)
field-takes field is =
    let end = end-takes field.end in
    let name = is.name.0 in
    simp length-append (omega arith)

fields-take : (fields : List Field) → All IsField fields → 3 * length fields ≤ length (flat_map print_field fields)
fields-take [] all = omega arith
fields-take (field ∷ fields) all =
    let first = field-takes field (All-head IsField field fields all) in
    let others = fields-take fields (All-tail IsField field fields all) in
    omega (arith, length-append (print_field field) (flat_map print_field fields))

head-takes : (head : RequestHead) → 3 * length head.fields ≤ length (flat_map print_field head.fields) → 3 * length head.fields ≤ length (print_request head)
unfolding print_request
head-takes head fields = simp length-append (omega arith)

-- fewer bytes than a head may have are no front of a head with more fields than those have room for
pub few_fields : (bytes : List ℕ) (room : ℕ) → length bytes < head_limit → head_limit < 3 * (room + 1) → RequestExceeds room bytes → ⊥
few_fields bytes room short large (front, rest, is, head, reads, more) =
    let fields = head-takes head (fields-take head.fields reads.0.fields) in
    let whole = ap length reads.1 in
    let size = ap length is in
    omega (arith, length-append front rest, length-append front (print_end lf), length-append (print_request head) [])
