use Rattle.std.proofs.Common.{refl}
use Rattle.serde_json.proofs.OnLiterals.{serde_json_on_literals}
use Rattle.wb_journal.proofs.laws.entries_have_the_keys_of_requests.Goals as goal

pub returns : goal.returns
unfolding serde_json_on_literals
returns c = record {
  next = λ arch builder after. refl;
  take = λ arch builder source version. refl;
  built = λ take_number. refl;
  uploaded = λ take_number. refl;
  waits = λ take_number relations. refl;
  put_back = λ take_number. refl;
  attempted = λ take_number reason. refl;
  add_arch = λ name os cpu. refl;
  add_builder = λ name arch. refl;
  remove_arch = λ name. refl;
  remove_builder = λ name arch. refl;
  enter = λ arch source version priority section. refl;
  give_back = λ arch source version. refl;
  dep_wait = λ arch source version relations. refl;
  fail = λ arch source version note. refl;
  not_for_us = λ arch source version note. refl;
  rebuild = λ arch source version number message. refl;
  build_priority = λ arch source version value. refl;
  forget = λ arch source version. refl;
}
