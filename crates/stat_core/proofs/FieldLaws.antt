-- What holds of each field.
use Rattle.mvcc_key.specs.Field.{Field, KeyCount, KeyBytes, ValCount, ValBytes, LiveCount, LiveBytes, IntentCount, IntentBytes, IntentAge, GcBytesAge, RangeKeyCount, RangeKeyBytes, RangeValCount, RangeValBytes}

-- what holds of each holds of all
pub each-field : (P : Field → Type 0) → P KeyCount → P KeyBytes → P ValCount → P ValBytes → P LiveCount → P LiveBytes → P IntentCount → P IntentBytes → P IntentAge → P GcBytesAge → P RangeKeyCount → P RangeKeyBytes → P RangeValCount → P RangeValBytes
    → (f : Field) → P f
each-field P a b d e g h i j k l m n o p KeyCount = a
each-field P a b d e g h i j k l m n o p KeyBytes = b
each-field P a b d e g h i j k l m n o p ValCount = d
each-field P a b d e g h i j k l m n o p ValBytes = e
each-field P a b d e g h i j k l m n o p LiveCount = g
each-field P a b d e g h i j k l m n o p LiveBytes = h
each-field P a b d e g h i j k l m n o p IntentCount = i
each-field P a b d e g h i j k l m n o p IntentBytes = j
each-field P a b d e g h i j k l m n o p IntentAge = k
each-field P a b d e g h i j k l m n o p GcBytesAge = l
each-field P a b d e g h i j k l m n o p RangeKeyCount = m
each-field P a b d e g h i j k l m n o p RangeKeyBytes = n
each-field P a b d e g h i j k l m n o p RangeValCount = o
each-field P a b d e g h i j k l m n o p RangeValBytes = p
