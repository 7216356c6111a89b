use Rattle.std.proofs.Common.{sym, ◌∙◌, ap, not, is_none}
use Rattle.std.specs.FinMap as map
use Rattle.std.specs.BTreeMap.{insert_entry}
use Rattle.std.specs.Int.{w64}
use Rattle.std.proofs.lemmas.Int.{to_z-of_z}
use Rattle.avr_text.specs.Names.{named}
use Rattle.avr_text.proofs.SymbolMaps.{by_bytes, lacks_name, put_name}
use Rattle.avr_text.proofs.symbols.Symbols.add.Goals as goal

pub returns-then-contains_key-clause-added : goal.returns-then-contains_key-clause-added
returns-then-contains_key-clause-added c =
    sym (ap (λ m. is_none (map.get m c.args.name.now)) (sym c.self.view_is) ∙ lacks_name c.self.inside.values.entries c.args.name.now
    c.contains_key.result c.contains_key.ensures ∙ ap not c.if-contains_key.true)

pub returns-clause-added : goal.returns-clause-added
returns-clause-added c =
    sym (ap (λ m. is_none (map.get m c.args.name.now)) (sym c.self.view_is) ∙ lacks_name c.self.inside.values.entries c.args.name.now
    c.contains_key.result c.contains_key.ensures ∙ ap not c.if-contains_key.false)

pub returns-clause-after : goal.returns-clause-after
returns-clause-after c =
    ap (λ es. map.from_entries (named es)) c.in_ok-insert.ensures.entries
    ∙ ap (λ v. map.from_entries (named (insert_entry by_bytes c.self.inside.values.entries c.in_ok-key.key v)))
    (to_z-of_z w64 c.args.value c.ranges.value) ∙ put_name c.self.inside.values.entries _ _
    ∙ ap (λ n. map.insert (map.from_entries (named c.self.inside.values.entries)) n c.args.value) c.in_ok-key.ensures.items
    ∙ ap (λ m. map.insert m c.args.name.now c.args.value) c.self.view_is
