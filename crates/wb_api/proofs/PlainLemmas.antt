-- The texts of the refusals that tell no more than their number and their name.
use Rattle.std.proofs.Common.{◌≡◌, refl, codes}
use Rattle.std.specs.Fmt.{digits}
use Rattle.json.specs.Print.{escape_byte}
use Rattle.wb_states.specs.declared.refusal.Refusal.TheVariants.{UnknownArch, UnknownBuilder, WrongArch, UnknownSource, QueueEmpty, NotHeld, AlreadyThere, BadName, BadNumber, TextTooLong, Spent, Closed, Memory, RepeatedArch, StillHeld}
use Rattle.wb_api.specs.Encoding.{refusal_text, refusal_members}

pub refusal_text-UnknownArch : refusal_text UnknownArch ≡ codes "{\"code\":1,\"refused\":\"UnknownArch\"}"
unfolding digits escape_byte refusal_text refusal_members
refusal_text-UnknownArch = refl

pub refusal_text-UnknownBuilder : refusal_text UnknownBuilder ≡ codes "{\"code\":2,\"refused\":\"UnknownBuilder\"}"
unfolding digits escape_byte refusal_text refusal_members
refusal_text-UnknownBuilder = refl

pub refusal_text-WrongArch : refusal_text WrongArch ≡ codes "{\"code\":3,\"refused\":\"WrongArch\"}"
unfolding digits escape_byte refusal_text refusal_members
refusal_text-WrongArch = refl

pub refusal_text-UnknownSource : refusal_text UnknownSource ≡ codes "{\"code\":4,\"refused\":\"UnknownSource\"}"
unfolding digits escape_byte refusal_text refusal_members
refusal_text-UnknownSource = refl

pub refusal_text-QueueEmpty : refusal_text QueueEmpty ≡ codes "{\"code\":7,\"refused\":\"QueueEmpty\"}"
unfolding digits escape_byte refusal_text refusal_members
refusal_text-QueueEmpty = refl

pub refusal_text-NotHeld : refusal_text NotHeld ≡ codes "{\"code\":8,\"refused\":\"NotHeld\"}"
unfolding digits escape_byte refusal_text refusal_members
refusal_text-NotHeld = refl

pub refusal_text-AlreadyThere : refusal_text AlreadyThere ≡ codes "{\"code\":10,\"refused\":\"AlreadyThere\"}"
unfolding digits escape_byte refusal_text refusal_members
refusal_text-AlreadyThere = refl

pub refusal_text-BadName : refusal_text BadName ≡ codes "{\"code\":11,\"refused\":\"BadName\"}"
unfolding digits escape_byte refusal_text refusal_members
refusal_text-BadName = refl

pub refusal_text-BadNumber : refusal_text BadNumber ≡ codes "{\"code\":14,\"refused\":\"BadNumber\"}"
unfolding digits escape_byte refusal_text refusal_members
refusal_text-BadNumber = refl

pub refusal_text-TextTooLong : refusal_text TextTooLong ≡ codes "{\"code\":17,\"refused\":\"TextTooLong\"}"
unfolding digits escape_byte refusal_text refusal_members
refusal_text-TextTooLong = refl

pub refusal_text-Spent : refusal_text Spent ≡ codes "{\"code\":18,\"refused\":\"Spent\"}"
unfolding digits escape_byte refusal_text refusal_members
refusal_text-Spent = refl

pub refusal_text-Closed : refusal_text Closed ≡ codes "{\"code\":19,\"refused\":\"Closed\"}"
unfolding digits escape_byte refusal_text refusal_members
refusal_text-Closed = refl

pub refusal_text-Memory : refusal_text Memory ≡ codes "{\"code\":20,\"refused\":\"Memory\"}"
unfolding digits escape_byte refusal_text refusal_members
refusal_text-Memory = refl

pub refusal_text-RepeatedArch : refusal_text RepeatedArch ≡ codes "{\"code\":22,\"refused\":\"RepeatedArch\"}"
unfolding digits escape_byte refusal_text refusal_members
refusal_text-RepeatedArch = refl

pub refusal_text-StillHeld : refusal_text StillHeld ≡ codes "{\"code\":23,\"refused\":\"StillHeld\"}"
unfolding digits escape_byte refusal_text refusal_members
refusal_text-StillHeld = refl
