-- The head of a request at the front of a stream (RFC 9112, sections 2 to 5). It has limits of length and of fields.
use Rattle.std.specs.Prelude.{◌≡◌, ◌⊎◌, ℕ, ◌<◌, ◌≤◌, Bool, true, false, List, [], length, take, drop, Option}
use Rattle.std.specs.Io.KnownBytes.{Consumes, IsAtEnd}
use Rattle.httparse.specs.Grammar.{HasNoRequest, MayBecomeRequest, NeverHasRequest, ReadsRequest, RequestHead, print_request}
use Rattle.httparse.specs.Spans.{RequestExceeds, RequestOverflows}
use Rattle.wb_streams.specs.declared.head.Front.{Front}
use Rattle.wb_streams.specs.declared.head.Front.TheVariants as front
use Rattle.wb_streams.specs.declared.head.HeadRead.{HeadRead}
use Rattle.wb_streams.specs.declared.head.HeadRead.TheVariants as came

-- the greatest length of a head, with its empty line
abbrev pub head_limit : ℕ
head_limit = 8192

-- the greatest number of fields of a head
abbrev pub field_limit : ℕ
field_limit = 32

-- the first bytes are a head within the limit of fields
pub record IsHeadAt (bytes : List ℕ) (count : ℕ) (head : RequestHead) : Type 0 where
  pub reads : ReadsRequest bytes head (drop count bytes)
  pub count_is : count ≡ length (print_request head)
  pub count_fits : count ≤ length bytes
  pub fields : length head.fields ≤ field_limit

-- more fields came than a head may have, and each head that the bytes can become has more
abbrev pub HasManyFields : List ℕ → Type 0
HasManyFields bytes = RequestOverflows field_limit bytes × RequestExceeds field_limit bytes

-- the bytes are no head, but can become one, or end inside the target
abbrev pub IsUnfinished : List ℕ → Type 0
IsUnfinished bytes = HasNoRequest bytes × MayBecomeRequest bytes

-- what the first bytes of a stream are
abbrev pub IsFront : List ℕ → Front → Type 0
IsFront bytes (front.Whole count) = (head : RequestHead) × IsHeadAt bytes count head
IsFront bytes front.Unfinished = IsUnfinished bytes
IsFront bytes front.Malformed = NeverHasRequest bytes
IsFront bytes front.Crowded = HasManyFields bytes

-- the front of a head and not all of one: no byte, or fewer bytes than a head may have, which are no head yet
abbrev pub IsHeadFront : List ℕ → Type 0
IsHeadFront seen = (length seen < head_limit) × ((seen ≡ []) ⊎ IsUnfinished seen)

-- bytes after which no head comes: nothing that follows makes them one, or nothing follows
abbrev pub IsMalformed : List ℕ → Option (List ℕ) → Type 0
IsMalformed seen left = (length seen ≤ head_limit)
    × (NeverHasRequest seen ⊎ ((length seen < head_limit) × HasNoRequest seen × IsAtEnd left))

-- bytes that are more than a head may have, or have more fields
abbrev pub IsTooLarge : List ℕ → Type 0
IsTooLarge seen = (length seen ≤ head_limit)
    × (((length seen ≡ head_limit) × IsUnfinished seen) ⊎ HasManyFields seen)

-- what a read of a head took from the reader, into the room; if the reader failed, it was the front of a head
abbrev pub TookHead : List ℕ → Option (List ℕ) → Option (List ℕ) → HeadRead → Type 0
TookHead room old new (came.Whole count filled) = (filled ≤ head_limit) × Consumes old new (take filled room)
    × (head : RequestHead) × IsHeadAt (take filled room) count head
TookHead room old new came.Nothing = Consumes old new [] × IsAtEnd new
TookHead room old new came.Malformed = (seen : List ℕ) × (0 < length seen) × Consumes old new seen × IsMalformed seen new
TookHead room old new came.TooLarge = (seen : List ℕ) × Consumes old new seen × IsTooLarge seen
TookHead room old new came.Failed = (seen : List ℕ) × Consumes old new seen × IsHeadFront seen

-- whether a read of a head failed
abbrev pub is_failed_head : HeadRead → Bool
is_failed_head (came.Whole count filled) = false
is_failed_head came.Nothing = false
is_failed_head came.Malformed = false
is_failed_head came.TooLarge = false
is_failed_head came.Failed = true
