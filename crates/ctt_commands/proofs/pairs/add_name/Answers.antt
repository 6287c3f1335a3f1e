use Rattle.std.proofs.Common.{rules, ◌≡◌, ◌∙◌, ◌∷◌, ◌++◌, [], ap, false, map, refl, string_bytes, sym, true}
use Rattle.std.specs.List.{list_any}
use Rattle.std.specs.Str.{bytes_eq}
use Rattle.std.proofs.lemmas.List.{map-append}
use Rattle.ctt_commands.proofs.PairLemmas.{any_mapped}
use Rattle.ctt_commands.proofs.pairs.add_name.Goals as goal

pub returns-then-has_name : goal.returns-then-has_name
returns-then-has_name c =
    let names = c.args.names.now.items in
    let known : c.has_name.result ≡ true = search rules in
    let among : list_any (λ other. bytes_eq other c.args.name.now) (map string_bytes names) ≡ true =
    any_mapped string_bytes (λ other. bytes_eq other c.args.name.now) names ∙ sym (rw c.deref.ensures.value at c.has_name.ensures) ∙ known in
    rw among refl

pub returns : goal.returns
returns c =
    let names = c.args.names.now.items in
    let new' = c.in_ok-from_str.field-0 in
    let known : c.has_name.result ≡ false = search rules in
    let among : list_any (λ other. bytes_eq other c.args.name.now) (map string_bytes names) ≡ false =
    any_mapped string_bytes (λ other. bytes_eq other c.args.name.now) names ∙ sym (rw c.deref.ensures.value at c.has_name.ensures) ∙ known in
    let pushed : c.push.new.self.items ≡ names ++ new' ∷ [] = search rules in
    let named : string_bytes new' ≡ c.args.name.now = search rules in
    rw among (ap (map string_bytes) pushed ∙ map-append string_bytes names (new' ∷ []) ∙ ap (λ name. map string_bytes names ++ name ∷ []) named)
