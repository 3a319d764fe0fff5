use Rattle.mvd_live.proofs.Runner.{asks_named, run_more, run_none}
use Rattle.mvd_live.proofs.laws.a_runner_runs.Goals as goal

pub returns : goal.returns
returns c = record {
  begins = λ number questions most old begins. run_none most old begins.local begins.peer;
  asks = asks_named;
  goes_on = λ number questions most old mid legs leg begins run goes. run_more most legs old mid leg begins.local begins.peer run goes;
}
