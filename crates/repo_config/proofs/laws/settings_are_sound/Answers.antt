use Rattle.repo_config.proofs.Sound.{configured_sound}
use Rattle.repo_config.proofs.laws.settings_are_sound.Goals as goal

pub returns : goal.returns
returns c = configured_sound
