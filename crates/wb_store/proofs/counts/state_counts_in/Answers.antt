use Rattle.std.proofs.Common.{◌∙◌}
use Rattle.wb_states.specs.declared.state.State.TheVariants.{NeedsBuild, Building, Built, Uploaded, Installed, DepWait, BdUninstallable, Failed, NotForUs, BuildAttempted}
use Rattle.wb_states.specs.Lookups.{counts_of}
use Rattle.wb_store.proofs.StateLemmas.{numbers}
use Rattle.wb_store.proofs.counts.state_counts_in.Goals as goal

pub returns : goal.returns
unfolding counts_of
returns c = record {
  value = λ machine arch is i. record {
    needs_build = (c.number_in.ensures ∙ numbers machine arch NeedsBuild c.args.states.now is) i;
    building = (c.number_in-2.ensures ∙ numbers machine arch Building c.args.states.now is) i;
    built = (c.number_in-3.ensures ∙ numbers machine arch Built c.args.states.now is) i;
    uploaded = (c.number_in-4.ensures ∙ numbers machine arch Uploaded c.args.states.now is) i;
    installed = (c.number_in-5.ensures ∙ numbers machine arch Installed c.args.states.now is) i;
    dep_wait = (c.number_in-6.ensures ∙ numbers machine arch DepWait c.args.states.now is) i;
    bd_uninstallable = (c.number_in-7.ensures ∙ numbers machine arch BdUninstallable c.args.states.now is) i;
    failed = (c.number_in-8.ensures ∙ numbers machine arch Failed c.args.states.now is) i;
    not_for_us = (c.number_in-9.ensures ∙ numbers machine arch NotForUs c.args.states.now is) i;
    build_attempted = (c.number_in-10.ensures ∙ numbers machine arch BuildAttempted c.args.states.now is) i;
  };
}
