-- What the reading of a log has so far of one name.
use Rattle.std.specs.Prelude.{map}
use Rattle.disk_model.specs.declared.memory.trail.Trail.{Trail}
use Rattle.disk_model.specs.Past.{At, value_of}

abbrev pub at_of : Trail → At
at_of trail = (value_of trail.present, map value_of trail.values.items)
