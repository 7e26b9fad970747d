-- Lemmas on runs over lines, as far as a loop has come.
use Rattle.std.proofs.Common.{◌≡◌, ℕ, ◌+◌, ◌-◌, ◌<◌, ◌≤◌, Bool, true, false, cond, max, List, [], ◌∷◌, ◌++◌, length, take, Option, None, Some, Err, IsTrue, ◌⊎◌, inl, inr, refl, sym, ap, ◌∙◌, subst, append_assoc, append-nil, length-append, length-take, arith}
use Rattle.std.proofs.Math.Nat.{max-zero, zero-max}
use Rattle.std.proofs.lemmas.Bool.{or_left, or_parts, or_right}
use Rattle.std.proofs.lemmas.Bool.Decides.{nat_tests}
use Rattle.std.proofs.lemmas.Grind.{flat_map-append}
use Rattle.std.proofs.lemmas.List.Folds.{list_any-append}
use Rattle.std.proofs.lemmas.List.Splits.{length-slice_split, slice_split-cons_no}
use Rattle.std.specs.Io.KnownBytes.{Appends, Consumes, IsAtEnd}
use Rattle.std.specs.List.{list_any, onto_first, slice_split}
use Rattle.wb_states.specs.Machine.{Machine}
use Rattle.deb_text.proofs.ListLemmas.{slice_split-run, slice_split-end}
use Rattle.deb_text.specs.Lines.{is_line_feed, IsOneLine}
use Rattle.wb_streams.specs.Line.{ended_in, is_long, input_lines, line_limit, through_long, with_line_feed, with_line_feeds}
use Rattle.wb_daemon.specs.Limits.{lines_limit, AreWithinLimit}
use Rattle.wb_lists.specs.Lists.{MayRead, IsAllOf}
use Rattle.wb_step.specs.Offices.{Standing, Open}
use Rattle.wb_api.specs.Responses.{Response}
use Rattle.wb_daemon.specs.Run.{IsLineResponse, Runs, EndsInput, FailsFor, StopsAfter, StopsBeforeReply, StopsBetween, RunStopsFor, StopsWithin, WereActedOn, asked_by, followed, no_response}
use Rattle.wb_streams.specs.Streams.{Flags, Stream}
use Rattle.wb_daemon.specs.Turn.{Answers, AnswersInPart, AnswersLast, IsCauseAtLine, TookEndedLine, TookLastLine, StopsAt, LacksReply, StopsTurn, fails_to_write}
use Rattle.wb_daemon.specs.declared.message.Cause.{Cause}
use Rattle.wb_daemon.specs.declared.message.Cause.TheVariants.{Read, Write, Reply, Store, Lines, Room}
use Rattle.wb_streams.proofs.LineLemmas.{Appends-same, Appends-then, Consumes-then}
use Rattle.wb_daemon.proofs.AnswerLemmas.{IsLineResponse-long, answers-blank}
use lib.Seq.{take-append_seam}

-- ---- lines and their bytes

-- lines that a run answers and goes on
abbrev pub AreLines : List (List ℕ) → Type 0
AreLines [] = Unit {0}
AreLines (line ∷ lines) = IsOneLine line × (is_long line ≡ false) × AreLines lines

with_line_feeds-snoc : (lines : List (List ℕ)) (line : List ℕ) → with_line_feeds (lines ++ line ∷ []) ≡ with_line_feeds lines ++ with_line_feed line
with_line_feeds-snoc lines line =
    flat_map-append with_line_feed lines (line ∷ []) ∙ ap (λ l. with_line_feeds lines ++ l) (append-nil (with_line_feed line))

AreLines-snoc : (lines : List (List ℕ)) (line : List ℕ) → AreLines lines → IsOneLine line → is_long line ≡ false → AreLines (lines ++ line ∷ [])
AreLines-snoc [] line a h k = (h, k, tt)
AreLines-snoc (x ∷ xs) line a h k = (a.0, a.1, AreLines-snoc xs line a.2 h k)

cond-same : {X : Type 0} (b : Bool) (x : X) → cond b x x ≡ x
cond-same true x = refl
cond-same false x = refl

some_part : (parts : List (List ℕ)) → 0 < length parts → (first : List ℕ) × (rest : List (List ℕ)) × (parts ≡ first ∷ rest)
some_part [] h = absurd (omega arith)
some_part (x ∷ xs) h = (x, xs, refl)

split-front : (line more : List ℕ) → IsOneLine line
    → (first : List ℕ) × (rest : List (List ℕ)) × (slice_split is_line_feed (line ++ more) ≡ (line ++ first) ∷ rest)
split-front [] more h = some_part (slice_split is_line_feed more) (omega (arith, length-slice_split is_line_feed more))
split-front (c ∷ cs) more h =
    let parts = or_parts (is_line_feed c) (list_any is_line_feed cs) h in
    let before = split-front cs more parts.1 in
    (before.0, before.1, slice_split-cons_no is_line_feed c (cs ++ more) parts.0 ∙ ap (onto_first c) before.2)

split-with_line_feeds : (lines : List (List ℕ)) (more : List ℕ) → AreLines lines → slice_split is_line_feed (with_line_feeds lines ++ more) ≡ lines ++ slice_split is_line_feed more
split-with_line_feeds [] more a = refl
split-with_line_feeds (x ∷ xs) more a =
    ap (slice_split is_line_feed) (append_assoc (with_line_feed x) (with_line_feeds xs) more ∙ append_assoc x (10 ∷ []) (with_line_feeds xs ++ more))
    ∙ slice_split-run is_line_feed x 10 (with_line_feeds xs ++ more) a.0 refl
    ∙ ap (λ l. x ∷ l) (split-with_line_feeds xs more a.2)

through-lines : (lines rest : List (List ℕ)) → AreLines lines → through_long (lines ++ rest) ≡ lines ++ through_long rest
through-lines [] rest a = refl
through-lines (x ∷ xs) rest a =
    ap (λ b. x ∷ cond b [] (through_long (xs ++ rest))) a.1 ∙ ap (λ l. x ∷ l) (through-lines xs rest a.2)

-- the lines of an input whose last line has no line feed
input_lines-last : (lines : List (List ℕ)) (line : List ℕ) → AreLines lines → IsOneLine line → input_lines (with_line_feeds lines ++ line) ≡ lines ++ line ∷ []
unfolding input_lines
input_lines-last lines line a h =
    ap through_long (split-with_line_feeds lines line a ∙ ap (λ l. lines ++ l) (slice_split-end is_line_feed line h))
    ∙ through-lines lines (line ∷ []) a
    ∙ ap (λ l. lines ++ line ∷ l) (cond-same (is_long line) [])

is_long-append : (line more : List ℕ) → is_long line ≡ true → is_long (line ++ more) ≡ true
is_long-append line more h = grind (arith, nat_tests, length-append line more)

-- the lines of an input with a line that is too long
input_lines-long : (lines : List (List ℕ)) (line more : List ℕ) → AreLines lines → IsOneLine line → is_long line ≡ true
    → (last : List ℕ) × (is_long last ≡ true) × (input_lines (with_line_feeds lines ++ (line ++ more)) ≡ lines ++ last ∷ [])
unfolding input_lines
input_lines-long lines line more a h k =
    let front = split-front line more h in
    let long = is_long-append line front.0 k in (
      line ++ front.0,
      long,
      ap through_long (split-with_line_feeds lines (line ++ more) a ∙ ap (λ l. lines ++ l) front.2)
          ∙ through-lines lines ((line ++ front.0) ∷ front.1) a
          ∙ ap (λ b. lines ++ (line ++ front.0) ∷ cond b [] (through_long front.1)) long,
    )

take-front : (lines : List (List ℕ)) (line : List ℕ) → take (length (lines ++ line ∷ []) - 1) (lines ++ line ∷ []) ≡ lines
take-front lines line =
    let count : length (lines ++ line ∷ []) - 1 ≡ length lines = omega (arith, length-append lines (line ∷ [])) in
    ap (λ n. take n (lines ++ line ∷ [])) count ∙ take-append_seam lines (line ∷ [])

-- the lines that line feeds have ended, where a line without one follows
ended_in-with_line_feeds : (lines : List (List ℕ)) (line : List ℕ) → AreLines lines → IsOneLine line → ended_in (with_line_feeds lines ++ line) ≡ lines
unfolding ended_in
ended_in-with_line_feeds lines line a h =
    ap (λ l. take (length l - 1) l) (split-with_line_feeds lines line a ∙ ap (λ l. lines ++ l) (slice_split-end is_line_feed line h)) ∙ take-front lines line

-- ---- one line more

-- the same text and status are the same response
pub response-same : {s t : List ℕ} {m : Machine} {j k : ℕ} → s ≡ t → j ≡ k
    → ◌≡◌ {A = Response} (record { text = s; machine = m; status = j }) (record { text = t; machine = m; status = k })
response-same {s} {t} {m} {j} {k} p q = ap (λ x. record { text = x; machine = m; status = j }) p ∙ ap (λ n. record { text = t; machine = m; status = n }) q

pub max_assoc : (i j k : ℕ) → max (max i j) k ≡ max i (max j k)
max_assoc i j k = omega arith

pub Runs-snoc : (may_read : MayRead) (lines : List (List ℕ)) (machine : Machine) (whole : Response) (line : List ℕ) (response : Response)
    → Runs may_read machine lines whole → IsLineResponse may_read whole.machine line response → Runs may_read machine (lines ++ line ∷ []) (followed whole response)
Runs-snoc may_read [] machine whole line response p q = (
  response,
  no_response response.machine,
  subst (λ (x : Response). IsLineResponse may_read x.machine line response) p q,
  refl,
  ap (λ (x : Response). followed x response) p ∙ response-same {m = response.machine} (sym (append-nil response.text)) (zero-max response.status ∙ sym (max-zero response.status)),
)
Runs-snoc may_read (x ∷ xs) machine whole line response p q = (
  p.0,
  followed p.1 response,
  p.2,
  Runs-snoc may_read xs p.0.machine p.1 line response p.3 (subst (λ (y : Response). IsLineResponse may_read y.machine line response) p.4 q),
  ap (λ (y : Response). followed y response) p.4
      ∙ response-same {m = response.machine} (append_assoc p.0.text p.1.text response.text) (max_assoc p.0.status p.1.status response.status),
)

-- a run so far: each line that was read was answered
pub record SoFar (may_read : MayRead) (input now old new : Option (List ℕ)) (before after : Machine) (status count : ℕ) : Type 0 where
  pub lines : List (List ℕ)
  pub text : List ℕ
  pub are : AreLines lines
  pub counted : length lines ≡ count
  pub taken : Consumes input now (with_line_feeds lines)
  pub runs : Runs may_read before lines (record { text = text; machine = after; status = status })
  pub written : Appends old new text

Consumes-same : (a : Option (List ℕ)) → Consumes a a []
Consumes-same None = tt
Consumes-same (Some x) = refl

pub so_far-start : (may_read : MayRead) (input old : Option (List ℕ)) (machine : Machine) → SoFar may_read input input old old machine machine 0 0
so_far-start may_read input old machine = record {
  lines = [];
  text = [];
  are = tt;
  counted = refl;
  taken = Consumes-same input;
  runs = refl;
  written = Appends-same old;
}

module _ {may_read : MayRead} {input now old new : Option (List ℕ)} {before after : Machine} {status count : ℕ} (far : SoFar may_read input now old new before after status count) where
  after_line : (line : List ℕ) (left : Option (List ℕ)) → Consumes now left (with_line_feed line) → Consumes input left (with_line_feeds (far.lines ++ line ∷ []))
  after_line line left p =
      subst (Consumes input left) (sym (with_line_feeds-snoc far.lines line)) (Consumes-then input now left (with_line_feeds far.lines) (with_line_feed line) far.taken p)

  pub so_far-line : (line : List ℕ) (left written : Option (List ℕ)) (next : Machine) (more : ℕ)
      → TookEndedLine line now left → Answers may_read (asked_by line) after next new written more
      → SoFar may_read input left old written before next (max status more) (count + 1)
  so_far-line line left written next more g a = record {
    lines = far.lines ++ line ∷ [];
    text = far.text ++ a.0;
    are = AreLines-snoc far.lines line far.are g.1 g.0;
    counted = omega (arith, length-append far.lines (line ∷ []), far.counted);
    taken = after_line line left g.2;
    runs = Runs-snoc may_read far.lines before _ line _ far.runs a.1;
    written = Appends-then old new written far.text a.0 far.written a.2;
  }

-- ---- how a run ends

-- an input of which this is the front: what the reader had left where that is known, and else no more than this
whole_input : (More : Type 0) (input now left : Option (List ℕ)) (xs ys : List ℕ) → Consumes input now xs → Consumes now left ys → IsAtEnd left ⊎ More
    → (rest : List ℕ) × IsAllOf input (xs ++ (ys ++ rest)) × ((rest ≡ []) ⊎ More)
whole_input More None now left xs ys p q e = ([], tt, inl refl)
whole_input More (Some b) None left xs ys p q e = absurd p
whole_input More (Some b) (Some c) None xs ys p q e = absurd q
whole_input More (Some b) (Some c) (Some d) xs ys p q (inl e) = (d, sym (p ∙ ap (λ l. xs ++ l) q), inl e)
whole_input More (Some b) (Some c) (Some d) xs ys p q (inr h) = (d, sym (p ∙ ap (λ l. xs ++ l) q), inr h)

nothing_left : (rest : List ℕ) → (rest ≡ []) ⊎ ⊥ → rest ≡ []
nothing_left rest (inl e) = e
nothing_left rest (inr h) = absurd h

-- the lines of an input whose last line was read, in so far as it is not too long
last_lines : (may_read : MayRead) (lines : List (List ℕ)) (line rest : List ℕ) → AreLines lines → IsOneLine line → (rest ≡ []) ⊎ (is_long line ≡ true)
    → (last : List ℕ) × (input_lines (with_line_feeds lines ++ (line ++ rest)) ≡ lines ++ last ∷ [])
    × ((machine : Machine) (response : Response) → IsLineResponse may_read machine line response → IsLineResponse may_read machine last response)
last_lines may_read lines line rest a h (inl e) = (
  line,
  ap (λ l. input_lines (with_line_feeds lines ++ l)) (ap (λ r. line ++ r) e ∙ append-nil line) ∙ input_lines-last lines line a h,
  λ _ _ q. q,
)
last_lines may_read lines line rest a h (inr k) =
    let long = input_lines-long lines line rest a h k in
    (long.0, long.2, λ machine response q. IsLineResponse-long may_read machine line long.0 response k long.1 q)

some_long : (lines : List (List ℕ)) (line : List ℕ) → is_long line ≡ true → list_any is_long (lines ++ line ∷ []) ≡ true
some_long lines line h =
    list_any-append is_long lines (line ∷ []) ∙ or_right (list_any is_long lines) (list_any is_long (line ∷ [])) (or_left (is_long line) false h)

module _ {may_read : MayRead} {input now old new : Option (List ℕ)} {before after : Machine} {status count : ℕ} (far : SoFar may_read input now old new before after status count) where
  ended : (bytes last : List ℕ) (written : Option (List ℕ)) (next : Machine) (more : ℕ)
      → IsAllOf input bytes → input_lines bytes ≡ far.lines ++ last ∷ [] → AreWithinLimit (far.lines ++ last ∷ [])
      → Answers may_read (asked_by last) after next new written more → EndsInput may_read input old written before next (max status more)
  ended bytes last written next more p same few a = (
    bytes,
    p,
    subst AreWithinLimit (sym same) few,
    (
      far.text ++ a.0,
      subst (λ l. Runs may_read before l (record { text = far.text ++ a.0; machine = next; status = max status more })) (sym same)
          (Runs-snoc may_read far.lines before _ last _ far.runs a.1),
      Appends-then old new written far.text a.0 far.written a.2,
    ),
  )

  -- the last line was answered
  pub ends-line : (line : List ℕ) (left written : Option (List ℕ)) (next : Machine) (more greatest : ℕ) → count < lines_limit → greatest ≡ max status more
      → TookLastLine line now left → Answers may_read (asked_by line) after next new written more → EndsInput may_read input old written before next greatest
  ends-line line left written next more greatest few e g a =
      let whole = whole_input (is_long line ≡ true) input now left (with_line_feeds far.lines) line far.taken g.1 g.2 in
      let last = last_lines may_read far.lines line whole.0 far.are g.0 whole.2 in
      subst (λ n. EndsInput may_read input old written before next n) (sym e)
      (ended (with_line_feeds far.lines ++ (line ++ whole.0)) last.0 written next more whole.1 last.1
      (inl (omega (arith, length-append far.lines (last.0 ∷ []), far.counted, few)))
      (a.0, last.2 _ _ a.1, a.2))

  -- nothing follows the last line that a run may have
  pub ends-nothing : (left : Option (List ℕ)) → count ≡ lines_limit → Consumes now left [] → IsAtEnd left → EndsInput may_read input old new before after status
  ends-nothing left full p e =
      let whole = whole_input ⊥ input now left (with_line_feeds far.lines) [] far.taken p (inl e) in
      subst (λ n. EndsInput may_read input old new before after n) (max-zero status)
      (ended (with_line_feeds far.lines ++ ([] ++ whole.0)) [] new after 0 whole.1
      (ap (λ l. input_lines (with_line_feeds far.lines ++ l)) (nothing_left whole.0 whole.2) ∙ input_lines-last far.lines [] far.are refl)
      (inr (far.lines, refl, far.counted ∙ full))
      (answers-blank may_read after [] new refl refl))

  -- ---- how a run stops

  between : (line : List ℕ) → IsOneLine line → StopsBetween may_read (with_line_feeds far.lines ++ line) before far.text after
  between line h =
      (status, subst (λ l. Runs may_read before l (record { text = far.text; machine = after; status = status })) (sym (ended_in-with_line_feeds far.lines line far.are h)) far.runs)

  -- the reader failed within a line
  pub stops-read : (line : List ℕ) (left : Option (List ℕ)) → IsOneLine line → Consumes now left line → RunStopsFor may_read Read input left old new before after Open
  stops-read line left h p =
      (with_line_feeds far.lines ++ line, far.text, Consumes-then input now left (with_line_feeds far.lines) line far.taken p, far.written, (between line h, refl))

  -- a byte follows the last line that a run may have
  pub stops-limit : (byte : ℕ) (left : Option (List ℕ)) → count ≡ lines_limit → Consumes now left (byte ∷ []) → RunStopsFor may_read Lines input left old new before after Open
  stops-limit byte left full p =
      let acted = with_line_feeds far.lines ++ [] in (
        with_line_feeds far.lines ++ byte ∷ [],
        far.text,
        Consumes-then input now left (with_line_feeds far.lines) (byte ∷ []) far.taken p,
        far.written,
        (
          (
            acted,
            byte,
            ap (λ l. l ++ byte ∷ []) (sym (append-nil (with_line_feeds far.lines))),
            ap length (ended_in-with_line_feeds far.lines [] far.are refl) ∙ far.counted ∙ full,
            between [] refl,
          ),
          refl,
        ),
      )

  within : (line : List ℕ) (written : Option (List ℕ)) (next : Machine) (standing : Standing) → (a : AnswersInPart may_read (asked_by line) after next standing new written)
      → StopsWithin may_read (far.lines ++ line ∷ []) before (far.text ++ take a.3.0 a.0.text) next standing
  within line written next standing a = record {
    earlier = far.lines;
    last = line;
    answered = record { text = far.text; machine = after; status = status };
    response = a.0;
    written = a.3.0;
    parts = refl;
    runs = far.runs;
    responds = a.1;
    cut = a.3.1;
    front = refl;
    office = a.2;
  }

  at_last : (line : List ℕ) (left : Option (List ℕ)) → IsAtEnd left ⊎ (is_long line ≡ true) → IsAtEnd left ⊎ IsTrue (list_any is_long (far.lines ++ line ∷ []))
  at_last line left (inl h) = inl h
  at_last line left (inr h) = inr (some_long far.lines line h)

  before_reply : (line : List ℕ) (written : Option (List ℕ)) (next : Machine) → LacksReply may_read (asked_by line) after next new written
      → StopsBeforeReply may_read (far.lines ++ line ∷ []) before far.text next
  before_reply line written next a = record {
    earlier = far.lines;
    last = line;
    answered = record { text = far.text; machine = after; status = status };
    command = a.0;
    parts = refl;
    runs = far.runs;
    invokes = a.1;
    accepted = a.2;
    unwritten = refl;
  }

  after_answer : (line : List ℕ) (written : Option (List ℕ)) (next : Machine) (standing : Standing) → (a : AnswersLast may_read (asked_by line) after next standing new written)
      → StopsAfter may_read (far.lines ++ line ∷ []) before (far.text ++ a.0.text) next standing
  after_answer line written next standing a = record {
    earlier = far.lines;
    last = line;
    answered = record { text = far.text; machine = after; status = status };
    response = a.0;
    parts = refl;
    runs = far.runs;
    refused = a.1;
    written = refl;
    office = a.2;
  }

  -- the bytes of the lines that were acted on
  acted_on : (line : List ℕ) (left : Option (List ℕ)) → TookEndedLine line now left ⊎ TookLastLine line now left
      → (seen : List ℕ) × Consumes input left seen × WereActedOn seen left (far.lines ++ line ∷ [])
  acted_on line left (inl g) =
      let all = far.lines ++ line ∷ [] in (
        with_line_feeds all,
        after_line far line left g.2,
        inl (sym (ap ended_in (sym (append-nil (with_line_feeds all))) ∙ ended_in-with_line_feeds all [] (AreLines-snoc far.lines line far.are g.1 g.0) refl)),
      )
  acted_on line left (inr g) = (
    with_line_feeds far.lines ++ line,
    Consumes-then input now left (with_line_feeds far.lines) line far.taken g.1,
    inr (sym (input_lines-last far.lines line far.are g.0), at_last line left g.2),
  )

  stops-line : (cause : Cause) (line : List ℕ) (left written : Option (List ℕ)) (next : Machine) (standing : Standing)
      → TookEndedLine line now left ⊎ TookLastLine line now left → StopsAt may_read (asked_by line) after next standing new written cause
      → RunStopsFor may_read cause input left old written before next standing
  stops-line Read line left written next standing g a = absurd a
  stops-line Write line left written next standing g a =
      let h = acted_on line left g in
      (h.0, far.text ++ take a.3.0 a.0.text, h.1, Appends-then old new written far.text _ far.written a.3.2, (far.lines ++ line ∷ [], h.2, within line written next standing a))
  stops-line Reply line left written next standing g a =
      let h = acted_on line left g in
      (h.0, far.text, h.1, subst (λ w. Appends old w far.text) (sym a.0.3) far.written, (far.lines ++ line ∷ [], h.2, before_reply line written next a.0, a.1))
  stops-line Store line left written next standing g a =
      let h = acted_on line left g in
      (h.0, far.text ++ a.0.text, h.1, Appends-then old new written far.text _ far.written a.3, (far.lines ++ line ∷ [], h.2, after_answer line written next standing a))
  stops-line Lines line left written next standing g a = absurd a
  stops-line Room line left written next standing g a = absurd a

  -- a turn stopped
  pub stops-turn : (cause : Cause) (left written : Option (List ℕ)) (next : Machine) (standing : Standing)
      → StopsTurn may_read cause after next standing now left new written → RunStopsFor may_read cause input left old written before next standing
  stops-turn Read left written next standing t =
      subst (λ s. RunStopsFor may_read Read input left old written before next s) (sym t.5)
      (subst (λ w. RunStopsFor may_read Read input left old w before next Open) (sym t.4)
      (subst (λ m. RunStopsFor may_read Read input left old new before m Open) (sym t.3) (stops-read t.0 left t.1 t.2)))
  stops-turn Write left written next standing t = stops-line Write t.0 left written next standing t.1 t.2
  stops-turn Reply left written next standing t = stops-line Reply t.0 left written next standing t.1 t.2
  stops-turn Store left written next standing t = stops-line Store t.0 left written next standing t.1 t.2
  stops-turn Lines left written next standing t = absurd t.2
  stops-turn Room left written next standing t = absurd t.2

-- a run that could not begin
pub stops-at_once : (may_read : MayRead) (input old : Option (List ℕ)) (machine : Machine) → RunStopsFor may_read Room input input old old machine machine Open
stops-at_once may_read input old machine = ([], [], Consumes-same input, Appends-same old, ((refl, refl, refl), refl))

-- the run goes on, or ends, with the greater of two statuses
pub so_far-next : {may_read : MayRead} {input now old new : Option (List ℕ)} {before after : Machine} {status count : ℕ} (far : SoFar may_read input now old new before after status count)
    (line : List ℕ) (left written : Option (List ℕ)) (next : Machine) (more greatest : ℕ)
    → TookEndedLine line now left → Answers may_read (asked_by line) after next new written more → greatest ≡ max status more
    → SoFar may_read input left old written before next greatest (count + 1)
so_far-next {may_read} {input} {old} {before} {count} far line left written next more greatest g a e =
    subst (λ n. SoFar may_read input left old written before next n (count + 1)) (sym e) (so_far-line far line left written next more g a)

pub short_line : (room : List ℕ) (len : ℕ) → len ≤ line_limit → is_long (take len room) ≡ false
short_line room len h = grind (arith, nat_tests, length-take len room)

-- ---- what failed

-- nothing failed before, and then what this cause says
pub FailsFor-then : (cause : Option Cause) (a b c x y z : Stream) → FailsFor None a b x y → FailsFor cause b c y z → FailsFor cause a c x z
FailsFor-then (Some Read) a b c x y z p q = (q.0, q.1 ∙ p.1)
FailsFor-then (Some Write) a b c x y z p q = (q.0 ∙ p.0, q.1)
FailsFor-then (Some Reply) a b c x y z p q = (q.0 ∙ p.0, q.1 ∙ p.1)
FailsFor-then (Some Store) a b c x y z p q = (q.0 ∙ p.0, q.1 ∙ p.1)
FailsFor-then (Some Lines) a b c x y z p q = (q.0 ∙ p.0, q.1 ∙ p.1)
FailsFor-then (Some Room) a b c x y z p q = (q.0 ∙ p.0, q.1 ∙ p.1)
FailsFor-then None a b c x y z p q = (q.0 ∙ p.0, q.1 ∙ p.1)

-- a line that was read was not answered: no read failed, and a write only where that is why
pub FailsFor-answer : (cause : Cause) (a b x y : Stream) → b.failed ≡ a.failed → IsCauseAtLine cause → Flags (fails_to_write (Err cause)) x y → FailsFor (Some cause) a b x y
FailsFor-answer Read a b x y p at q = absurd at
FailsFor-answer Write a b x y p at q = (p, q)
FailsFor-answer Reply a b x y p at q = (p, q)
FailsFor-answer Store a b x y p at q = (p, q)
FailsFor-answer Lines a b x y p at q = absurd at
FailsFor-answer Room a b x y p at q = absurd at
