-- What a call that was read works on.
use Rattle.std.specs.Prelude.{Bool, true, false}
use Rattle.s7_cli.specs.declared.words.AskedCommand.{AskedCommand}
use Rattle.s7_cli.specs.declared.words.AskedCommand.TheVariants as asked

-- the call compiles a source: `go`, `check` and `compile`
abbrev pub compiles_a_source : AskedCommand → Bool
compiles_a_source (asked.Go source symbols german history) = true
compiles_a_source (asked.Check source symbols german) = true
compiles_a_source (asked.Compile source symbols german image) = true
compiles_a_source _ = false

-- the call works on an image without workers: `run`, `upgrade`, `list`, `bound` and `recheck`
abbrev pub takes_image : AskedCommand → Bool
takes_image (asked.Run image history) = true
takes_image (asked.Upgrade image upgraded) = true
takes_image (asked.ListImage image source symbols) = true
takes_image (asked.Bound image certificate) = true
takes_image (asked.Recheck image certificate) = true
takes_image _ = false

-- the call works on an image with workers: `live` and `watch`
abbrev pub has_workers : AskedCommand → Bool
has_workers (asked.Live image stimuli scripts steps) = true
has_workers (asked.Watch image stimuli vars scripts steps) = true
has_workers _ = false
