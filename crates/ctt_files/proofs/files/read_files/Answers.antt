use Rattle.std.proofs.Common.{rules, ◌≡◌, ◌∙◌, ◌∷◌, length, refl, subst, sym, IfSome}
use Rattle.std.specs.String.{string_bytes}
use Rattle.std.specs.Vec.Iter.{into_iter_items, into_iter_len}
use Rattle.ctt_files.specs.Refusals.{IsOfFile, IsOfFiles}
use Rattle.ctt_files.specs.Texts.{Held}
use Rattle.ctt_files.specs.declared.fault.Fault.TheVariants.{Machine}
use Rattle.ctt_files.specs.declared.fault.MachineFault.TheVariants.{NoMemory}
use Rattle.ctt_files.proofs.Plain.{passed_on}
use Rattle.ctt_files.proofs.InTurn.{IsRead, all_counted, all_read, memory_of_files, next_is_among, none_read, one_more_read}
use Rattle.ctt_files.proofs.files.read_files.Goals as goal

pub loop-name-init : goal.loop-name-init
loop-name-init g c =
    let first : into_iter_items c.into_iter-name-iterator.result ≡ c.args.names.items = search rules in
    record {
      read = subst (IsRead _ (g.F.Files.held c.args.files.now) c.args.names.items (into_iter_items c.into_iter-name-iterator.result)) (sym c.in_ok-texts.ensures.items)
          (none_read _ (g.F.Files.held c.args.files.now) c.args.names.items _ first);
      kept = refl;
    }

pub loop-name-preserved : goal.loop-name-preserved
loop-name-preserved g c =
    let held : Held = g.F.Files.held c.args.files.now in
    let step : into_iter_items c.loop-name.name-iterator ≡ c.in-Some.name ∷ into_iter_items c.next.new.self = search rules in
    let told : IfSome (held (string_bytes c.in-Some.name)) (λ bytes. c.in_ok-text.text.items ≡ bytes) = subst (λ (known : Held). IfSome (known (string_bytes c.in-Some.name)) (λ bytes. c.in_ok-text.text.items ≡ bytes)) c.loop-name.invariant.kept c.in_ok-text.ensures.all in
    let more = one_more_read _ held c.args.names.items _ _ c.in-Some.name c.loop-name.texts.items c.in_ok-text.text step told c.loop-name.invariant.read in
    record {
      read = search (rules, more);
      kept = c.in_ok-text.ensures.kept ∙ c.loop-name.invariant.kept;
    }

pub returns-in_err-text-clause-cause : goal.returns-in_err-text-clause-cause
returns-in_err-text-clause-cause g c =
    let held : Held = g.F.Files.held c.args.files.now in
    let step : into_iter_items c.loop-name.name-iterator ≡ c.in-Some.name ∷ into_iter_items c.next.new.self = search rules in
    passed_on c.from_residual-in_err-text.result c.in_err-text.field-0.0 (IsOfFiles c.args.names.items held) c.from_residual-in_err-text.ensures.1
    (next_is_among _ held c.args.names.items _ _ c.in-Some.name c.loop-name.texts.items c.in_err-text.field-0.0 step c.loop-name.invariant.read
    (subst (λ (known : Held). IsOfFile known c.in-Some.name c.in_err-text.field-0.0) c.loop-name.invariant.kept c.in_err-text.ensures.cause))

pub returns-clause-all : goal.returns-clause-all
returns-clause-all g c =
    let count : into_iter_len c.loop-name.name-iterator ≡ 0 = search rules in
    let none : length (into_iter_items c.loop-name.name-iterator) ≡ 0 = sym c.loop-name.name-iterator.rest.ok.0 ∙ count in
    all_read _ (g.F.Files.held c.args.files.now) c.args.names.items _ c.loop-name.texts.items none c.loop-name.invariant.read

pub returns-clause-each : goal.returns-clause-each
returns-clause-each g c =
    let count : into_iter_len c.loop-name.name-iterator ≡ 0 = search rules in
    let none : length (into_iter_items c.loop-name.name-iterator) ≡ 0 = sym c.loop-name.name-iterator.rest.ok.0 ∙ count in
    all_counted _ (g.F.Files.held c.args.files.now) c.args.names.items _ c.loop-name.texts.items none c.loop-name.invariant.read

pub returns-in_err-texts-clause-cause : goal.returns-in_err-texts-clause-cause
returns-in_err-texts-clause-cause g c =
    let held : Held = g.F.Files.held c.args.files.now in
    passed_on c.from_residual.result (Machine NoMemory) (IsOfFiles c.args.names.items held) c.from_residual.ensures.1 (memory_of_files c.args.names.items held)

pub returns-in_err-push-clause-cause : goal.returns-in_err-push-clause-cause
returns-in_err-push-clause-cause g c =
    let held : Held = g.F.Files.held c.args.files.now in
    passed_on c.from_residual-in_err-push.result (Machine NoMemory) (IsOfFiles c.args.names.items held) c.from_residual-in_err-push.ensures.1 (memory_of_files c.args.names.items held)
