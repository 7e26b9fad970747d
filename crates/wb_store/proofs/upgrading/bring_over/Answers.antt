use Rattle.std.proofs.Common.{Err, Ok, map, subst}
use Rattle.wb_states.specs.Lookups.{entry_of}
use Rattle.wb_store.specs.Upgrading.{UpgradesOffice}
use Rattle.wb_store.proofs.BringLemmas.{brought_over, not_brought, not_read}
use Rattle.wb_store.proofs.ReadLemmas.{handed_on}
use Rattle.wb_store.proofs.upgrading.bring_over.Goals as goal

pub returns-in_err-counts : goal.returns-in_err-counts
returns-in_err-counts g c = record { brings = not_read c.requires.idle c.in_err-counts.ensures.reads (handed_on c.from_residual.result c.from_residual.ensures.1) }

pub returns-in_err-upgrade : goal.returns-in_err-upgrade
returns-in_err-upgrade g c =
    let upgrades = subst (λ records. UpgradesOffice {A = Unit {0}} g.S.Store (map entry_of records) c.read_office.new.conn c.upgrade.new.conn (Err c.in_err-upgrade.field-0.0)) c.deref.ensures.value c.in_err-upgrade.ensures.upgrades in
    record { brings = not_brought c.requires.idle c.in_ok-counts.ensures.reads upgrades (handed_on c.from_residual-in_err-upgrade.result c.from_residual-in_err-upgrade.ensures.1) }

pub returns : goal.returns
returns g c =
    let upgrades = subst (λ records. UpgradesOffice g.S.Store (map entry_of records) c.read_office.new.conn c.upgrade.new.conn (Ok c.in_ok-upgrade.field-0)) c.deref.ensures.value c.in_ok-upgrade.ensures.upgrades in
    record { brings = brought_over c.requires.idle c.in_ok-counts.ensures.reads upgrades }
