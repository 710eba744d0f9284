use Rattle.std.proofs.Common.{ℕ, List, ◌++◌, codes, ap, ◌∙◌}
use Rattle.c_tokens.specs.Seen.{text_of}
use Rattle.unit_commands.specs.Words.{kind_text}
use Rattle.unit_commands.specs.TreeLines.{indentation, line_and_column, name_text, number_shown, tag_text}
use Rattle.unit_commands.specs.Trees.{source_seen}
use Rattle.c_tree.specs.Seen.{node_of}
use Rattle.unit_commands.proofs.Appended.{behind}
use Rattle.unit_commands.proofs.tree_lines.write_line.Goals as goal

pub returns : goal.returns
returns c =
    let start = c.args.text.now.items in
    let source = c.args.source.now in
    let node = c.args.node.now in
    let place = line_and_column source.tokens.now node.token in
    let name = name_text (text_of source.names.now node.name) in
    let front = indentation c.args.depth ++ tag_text c.args.tag ++ kind_text node.kind ++ codes " " in
    let named = c.in_ok-write_name.ensures ∙ ap (λ (word : List ℕ). c.write_position.new.text.items ++ name_text word) c.spelling.ensures in
    behind start c.write_number.new.text.items c.push-2.new.self.items (front ++ place ++ name ++ number_shown (source_seen source) (node_of node)) (codes "\n")
    (behind start c.write_name.new.text.items c.write_number.new.text.items (front ++ place ++ name) (number_shown (source_seen source) (node_of node))
    (behind start c.write_position.new.text.items c.write_name.new.text.items (front ++ place) name
    (behind start c.push.new.self.items c.write_position.new.text.items front place
    (behind start c.write_kind.new.text.items c.push.new.self.items (indentation c.args.depth ++ tag_text c.args.tag ++ kind_text node.kind) (codes " ")
    (behind start c.write_role.new.text.items c.write_kind.new.text.items (indentation c.args.depth ++ tag_text c.args.tag) (kind_text node.kind)
    (behind start c.indent.new.text.items c.write_role.new.text.items (indentation c.args.depth) (tag_text c.args.tag) c.in_ok-indent.ensures c.in_ok-write_role.ensures)
    c.in_ok-write_kind.ensures)
    c.in_ok-push.ensures.items)
    c.in_ok-write_position.ensures)
    named)
    c.in_ok-write_number.ensures)
    c.in_ok-push-2.ensures.items
