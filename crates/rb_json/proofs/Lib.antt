mod TextFields
