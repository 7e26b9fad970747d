use Rattle.std.proofs.Common.{◌≡◌}
use Rattle.wb_archive.proofs.KnownListLemmas.{begins-unread, merge-known, parts-unread}
use Rattle.wb_archive.proofs.laws.merges_of_known_lists_are_those_of_their_texts.Goals as goal

pub returns : goal.returns
returns g c = record {
  unread = λ machine sources parts text given begins zip. (
    begins-unread g.R.ReadParagraphs.may_stand_at sources text begins,
    parts-unread g.R.ReadParagraphs.may_stand_at machine parts given zip,
  );
  value = λ machine sources parts text given records last replies begins zip lists.
      merge-known g.R.ReadParagraphs.may_stand_at g.R.ReadParagraphs.breaks machine (λ end. end ≡ last) sources parts records replies text given begins zip lists;
}
