-- The bytes of an answer (RFC 9112, sections 2.1 and 4; RFC 9110, sections 8.3 and 8.6).
use Rattle.std.specs.Prelude.{ℕ, ◌==◌, List, [], ◌∷◌, ◌++◌, length, codes, if◌then◌else◌, unwrap_or}
use Rattle.std.specs.Fmt.{decimal}
use Rattle.std.specs.List.{concat}
use Rattle.wb_streams.specs.declared.fault.Fault.{Fault}
use Rattle.wb_streams.specs.declared.fault.Fault.TheVariants.{HeadTooLarge, BadHead, FromBrowser, NoKey, NoRoute}
use Rattle.wb_streams.specs.declared.fault.Fault.TheVariants.{WrongMethod, NotAllowed, BadPath, NotSupported, NoLength, BadLength}
use Rattle.wb_streams.specs.declared.fault.Fault.TheVariants.{BodyTooLarge, BodyCut, BadBody, NoList}
use Rattle.http.specs.StatusCode.{code_digits, reason_phrase}

-- the phrase of a status, empty if it has none (RFC 9110, section 15; RFC 6585, section 5)
unfoldable pub phrase_of : ℕ → List ℕ
phrase_of status = unwrap_or (reason_phrase status) []

-- the further fields of an answer: one with status 401 says how a key is shown (RFC 9110, section 11.6.1; RFC 6750,
-- section 3)
abbrev pub further_fields : ℕ → List ℕ
further_fields status = if status == 401 then codes "WWW-Authenticate: Bearer\r\n" else []

-- the bytes of an answer: its status line, its three fields, further ones, an empty line and the body
unfoldable pub parts_bytes : List ℕ → List ℕ → List ℕ → List ℕ → List ℕ → List ℕ
parts_bytes code phrase size further body = concat (
    codes "HTTP/1.1 " ∷ code ∷ codes " " ∷ phrase
    ∷ codes "\r\nContent-Type: application/json\r\nContent-Length: " ∷ size
    ∷ codes "\r\nConnection: close\r\n" ∷ further ∷ codes "\r\n" ∷ body ∷ [])

-- the bytes of an answer with this status and body
unfoldable pub answer_bytes : ℕ → List ℕ → List ℕ
answer_bytes status body =
    parts_bytes (code_digits status) (phrase_of status) (decimal (length body)) (further_fields status) body

-- ---- faults

-- the name of a fault
abbrev pub name_of_fault : Fault → List ℕ
name_of_fault HeadTooLarge = codes "HeadTooLarge"
name_of_fault BadHead = codes "BadHead"
name_of_fault FromBrowser = codes "FromBrowser"
name_of_fault NoKey = codes "NoKey"
name_of_fault NoRoute = codes "NoRoute"
name_of_fault WrongMethod = codes "WrongMethod"
name_of_fault NotAllowed = codes "NotAllowed"
name_of_fault BadPath = codes "BadPath"
name_of_fault NotSupported = codes "NotSupported"
name_of_fault NoLength = codes "NoLength"
name_of_fault BadLength = codes "BadLength"
name_of_fault BodyTooLarge = codes "BodyTooLarge"
name_of_fault BodyCut = codes "BodyCut"
name_of_fault BadBody = codes "BadBody"
name_of_fault NoList = codes "NoList"

-- the status of a fault (RFC 9110, section 15.5, and 15.6.2 for a transfer coding; RFC 6585, section 5, for a head that
-- is too large)
abbrev pub status_of_fault : Fault → ℕ
status_of_fault HeadTooLarge = 431
status_of_fault BadHead = 400
status_of_fault FromBrowser = 403
status_of_fault NoKey = 401
status_of_fault NoRoute = 404
status_of_fault WrongMethod = 405
status_of_fault NotAllowed = 403
status_of_fault BadPath = 400
status_of_fault NotSupported = 501
status_of_fault NoLength = 411
status_of_fault BadLength = 400
status_of_fault BodyTooLarge = 413
status_of_fault BodyCut = 400
status_of_fault BadBody = 400
status_of_fault NoList = 404

-- the body of the answer to a fault: a JSON object (RFC 8259) with its name
abbrev pub fault_text : Fault → List ℕ
fault_text fault = codes "{\"http\":\"" ++ (name_of_fault fault ++ codes "\"}")
