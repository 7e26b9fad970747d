use Rattle.sqlite.specs.Held.{state}
use Rattle.wb_store.proofs.FileLemmas.{found_consistent}
use Rattle.wb_store.proofs.store.Store.try_adopt.Goals as goal

pub returns-in-Ok-clause-found : goal.returns-in-Ok-clause-found
returns-in-Ok-clause-found g c = λ clean machine is.
    let prepares = c.in-Ok.ensures.prepares in
    let consistent = found_consistent (state g.S.Store c.args.conn) is (λ schema. (prepares.good clean schema).0.0) (λ schema. (prepares.good_first clean schema).0.0) in
    let found = prepares.found clean machine consistent is in
    record { consistent = consistent; counted = found.0; settled = found.1 }

pub returns-in-Ok-clause-good : goal.returns-in-Ok-clause-good
returns-in-Ok-clause-good g c = λ clean office. let good = c.in-Ok.ensures.prepares.good clean office in (good.0.0, good.1)

pub returns-in-Ok-clause-clean : goal.returns-in-Ok-clause-clean
returns-in-Ok-clause-clean g c = c.in-Ok.ensures.prepares.was_clean

pub returns-in-Err-clause-refused : goal.returns-in-Err-clause-refused
returns-in-Err-clause-refused g c = c.in-Err.ensures.prepares

pub returns-in-Ok-clause-known : goal.returns-in-Ok-clause-known
returns-in-Ok-clause-known g c = c.in-Ok.ensures.prepares.known

pub returns-in-Ok-clause-other : goal.returns-in-Ok-clause-other
returns-in-Ok-clause-other g c = λ tables others unread. let is = (c.in-Ok.ensures.prepares.names.unread tables others unread).0 in absurd (cc)

pub returns-in-Err-clause-other : goal.returns-in-Err-clause-other
returns-in-Err-clause-other g c = λ tables others unread. let told = c.in-Err.ensures.prepares.names.unread tables others unread in let is = told.0 in (cc, told.1)

pub returns-in-Ok-clause-newer : goal.returns-in-Ok-clause-newer
returns-in-Ok-clause-newer g c = c.in-Ok.ensures.prepares.names.newer

pub returns-in-Ok-clause-limit : goal.returns-in-Ok-clause-limit
returns-in-Ok-clause-limit g c = c.in-Ok.ensures.prepares.limit

pub returns-in-Ok-clause-good_first : goal.returns-in-Ok-clause-good_first
returns-in-Ok-clause-good_first g c = λ clean first. let good = c.in-Ok.ensures.prepares.good_first clean first in (good.0.0, good.1)

pub returns-in-Ok-clause-others : goal.returns-in-Ok-clause-others
returns-in-Ok-clause-others g c = c.in-Ok.ensures.prepares.others

pub returns-in-Ok-clause-others_first : goal.returns-in-Ok-clause-others_first
returns-in-Ok-clause-others_first g c = c.in-Ok.ensures.prepares.others_first
