use Rattle.repo_model.proofs.Rising as rising
use Rattle.repo_model.proofs.laws.timestamps_rise.Goals as goal

pub returns-clause-rise : goal.returns-clause-rise
returns-clause-rise c = λ config s t es legal. rising.timestamps_rise config 0 s es t legal

pub returns-clause-none_full : goal.returns-clause-none_full
returns-clause-none_full c = λ config s t es legal. rising.none_full config 0 s es t legal
