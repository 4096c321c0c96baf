-- How contracts see a key whose items are held in a list.
use Rattle.intent_meta.specs.KeyHistory.{KeyHistory}
use Rattle.intent_meta.specs.views.Listed.{listed}
use Rattle.intent_meta.specs.declared.listed_items.ListedItems.{ListedItems}

-- what is held
abbrev pub history_of : ListedItems → KeyHistory
history_of l = listed l.key l.intent l.items
