-- What is found for options without values.
use Rattle.std.specs.Prelude.{◌≡◌, ◌⊎◌, Option, Some, None, codes}
use Rattle.clap.specs.Walk.{Text}

-- what is found for an option without a value: nothing, `true` or `false`
abbrev pub IsOnOrOff : Option Text → Type 0
IsOnOrOff None = Unit {0}
IsOnOrOff (Some text) = (text ≡ codes "true") ⊎ (text ≡ codes "false")
