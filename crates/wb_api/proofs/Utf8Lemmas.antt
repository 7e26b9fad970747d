-- Lemmas on UTF-8 as a test.
use Rattle.std.proofs.Common.{refl, None, Ok, Err, ◌≡◌, true, false, List, ℕ}
use Rattle.std.specs.Str.{IsUtf8, is_utf8}
use Rattle.std.proofs.lemmas.Str.{IsUtf8-from_is_utf8, is_utf8-from_IsUtf8}
use Rattle.percent_encoding.specs.Percent.{percent_decode}
use Rattle.serde_json.specs.Read.{read}
use Rattle.wb_api.specs.Commands.{json_of}
use Rattle.wb_api.specs.Routes.{decoded_text}
use Rattle.wb_streams.specs.declared.fault.Fault.TheVariants.{BadPath}
use Rattle.std.proofs.lemmas.Bool.{false_from_ne_true}

pub is_utf8-false : (bs : List ℕ) → ¬ (IsUtf8 bs) → is_utf8 bs ≡ false
is_utf8-false bs h = false_from_ne_true (is_utf8 bs) (λ e. h (IsUtf8-from_is_utf8 bs e))

-- ---- parts of a path that are decoded

pub decoded_text-ok : (part : List ℕ) → IsUtf8 (percent_decode part) → decoded_text part ≡ Ok (percent_decode part)
unfolding decoded_text
decoded_text-ok part h = rw (is_utf8-from_IsUtf8 (percent_decode part) h) refl

pub decoded_text-bad : (part : List ℕ) → ¬ (IsUtf8 (percent_decode part)) → decoded_text part ≡ Err BadPath
unfolding decoded_text
decoded_text-bad part h = rw (is_utf8-false (percent_decode part) h) refl

-- ---- bodies in JSON

pub json_of-other : (bytes : List ℕ) → is_utf8 bytes ≡ false → json_of bytes ≡ None
unfolding json_of
json_of-other bytes other = rw other refl

pub json_of-text : (bytes : List ℕ) → is_utf8 bytes ≡ true → json_of bytes ≡ read bytes
unfolding json_of
json_of-text bytes text = rw text refl
