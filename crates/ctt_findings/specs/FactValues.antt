-- The values of facts.
use Rattle.ctt_findings.specs.Lines.{FactContent, number, word}
use Rattle.ctt_findings.specs.declared.fact.FactValue.{FactValue}
use Rattle.ctt_findings.specs.declared.fact.FactValue.TheVariants.{Text, Number}

-- the word or number that a value holds
abbrev pub content_of : FactValue → FactContent
content_of (Text w) = word w.now
content_of (Number n) = number n
